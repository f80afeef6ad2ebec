use Rattle.pg_outcomes.proofs.One.{outcomes_are_one}
use Rattle.pg_outcomes.proofs.laws.outcomes_are_one.Goals as goal

pub returns : goal.returns
returns c = outcomes_are_one
