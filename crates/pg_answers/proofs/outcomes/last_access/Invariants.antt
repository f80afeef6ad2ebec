use Rattle.pg_answers.specs.Outcomes.{IsLastAccess}
use Rattle.pg_answers.proofs.outcomes.last_access.Given as goal

abbrev pub invariant-loop-i : goal.invariant-loop-i
invariant-loop-i l = IsLastAccess l.events l.i l.last
