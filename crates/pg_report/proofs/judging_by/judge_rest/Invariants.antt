use Rattle.std.proofs.Common.{ℕ, List, Option, []}
use Rattle.pg_report.specs.Windows.{IsTeamJudging}
use Rattle.pg_report.proofs.judging_by.judge_rest.Given as goal

abbrev pub invariant-loop : goal.invariant-loop
invariant-loop g l =
    ((start : Option (List ℕ)) × (f : ℕ) × IsTeamJudging g.R.Source start f (l.reader.unread, l.source) l.reader.stage l.team l.window.items l.counter)
    × ((start : Option (List ℕ)) (f : ℕ) → IsTeamJudging g.R.Source start f (l.fn.reader.unread, l.fn.source) l.fn.reader.stage l.fn.team [] 0
    → IsTeamJudging g.R.Source start f (l.reader.unread, l.source) l.reader.stage l.team l.window.items l.counter)
