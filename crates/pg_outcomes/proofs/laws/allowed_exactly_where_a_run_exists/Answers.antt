use Rattle.pg_outcomes.proofs.Meaning.{allowed_exactly}
use Rattle.pg_outcomes.proofs.laws.allowed_exactly_where_a_run_exists.Goals as goal

pub returns : goal.returns
returns c = allowed_exactly c.certified_exactly_where_a_run_exists.ensures
