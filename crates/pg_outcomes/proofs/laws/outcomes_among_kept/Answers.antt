use Rattle.pg_outcomes.proofs.One.{outcomes_among_kept}
use Rattle.pg_outcomes.proofs.laws.outcomes_among_kept.Goals as goal

pub returns : goal.returns
returns c = outcomes_among_kept c.witnessed_among_kept.ensures
