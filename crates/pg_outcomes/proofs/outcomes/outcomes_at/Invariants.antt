use Rattle.std.proofs.Common.{take}
use Rattle.pg_outcomes.specs.Candidates.{AreFound}
use Rattle.pg_outcomes.proofs.outcomes.outcomes_at.Given as goal

abbrev pub invariant-loop-outcome : goal.invariant-loop-outcome
invariant-loop-outcome l = AreFound l.seen l.number l.event (take l.outcome-index l.outcome-items) l.allowed.items
