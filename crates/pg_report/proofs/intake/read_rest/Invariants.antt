use Rattle.std.proofs.Common.{ℕ, List, Option}
use Rattle.pg_event.specs.declared.version.Version.{Version}
use Rattle.pg_report.specs.Going.{IsGoing}
use Rattle.pg_report.proofs.intake.read_rest.Given as goal

abbrev pub invariant-loop : goal.invariant-loop
invariant-loop g l =
    ((newest : Version) × (start : Option (List ℕ)) × (f : ℕ) × IsGoing g.R.Source newest start f (l.reader.unread, l.source) l.reader.stage l.history l.counter)
    × ((newest : Version) (start : Option (List ℕ)) (f : ℕ) → IsGoing g.R.Source newest start f (l.fn.reader.unread, l.fn.source) l.fn.reader.stage l.fn.history 0
    → IsGoing g.R.Source newest start f (l.reader.unread, l.source) l.reader.stage l.history l.counter)
