use Rattle.std.proofs.Common.{◌+◌, ◌<◌, ℕ, List, Option, length}
use Rattle.pg_event.specs.declared.version.Version.TheVariants.{Two}
use Rattle.pg_event.specs.Spelling.{Recorded}
use Rattle.pg_report.specs.Going.{IsGoing}
use Rattle.pg_report.proofs.Ahead.{HasRead}
use Rattle.pg_report.proofs.judging_by.read_window.Given as goal

abbrev pub invariant-loop : goal.invariant-loop
invariant-loop g l = record {
  some : (start : Option (List ℕ)) × (f : ℕ) × (r : Recorded) × (windows : ℕ) × HasRead g.R.Source start f r (windows + l.counter) (l.reader.unread, l.source) l.reader.stage l.window.items;
  reads : (start : Option (List ℕ)) (f : ℕ) (r : Recorded) (windows : ℕ) → IsGoing g.R.Source Two start f (l.fn.reader.unread, l.fn.source) l.fn.reader.stage r windows
      → HasRead g.R.Source start f r (windows + l.counter) (l.reader.unread, l.source) l.reader.stage l.window.items;
  few : length l.window.items < l.size;
}
