use Rattle.std.proofs.Common.{ℕ, List, [], Option}
use Rattle.pg_report.specs.Going.{IsJudging}
use Rattle.pg_answers.proofs.first_checks.judge_up_to.Given as goal

abbrev pub invariant-loop : goal.invariant-loop
invariant-loop g l =
    ((start : Option (List ℕ)) × (f : ℕ) × IsJudging g.R.Source start f (l.reader.unread, l.source) l.reader.stage l.judged [] l.counter)
    × ((start : Option (List ℕ)) (f : ℕ) → IsJudging g.R.Source start f (l.fn.reader.unread, l.fn.source) l.fn.reader.stage l.fn.judged [] 0
    → IsJudging g.R.Source start f (l.reader.unread, l.source) l.reader.stage l.judged [] l.counter)
