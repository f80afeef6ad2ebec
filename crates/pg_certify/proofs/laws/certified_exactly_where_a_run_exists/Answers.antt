use Rattle.pg_certify.proofs.Meaning.{certified_exactly_where_a_run_exists}
use Rattle.pg_certify.proofs.laws.certified_exactly_where_a_run_exists.Goals as goal

pub returns : goal.returns
returns c = certified_exactly_where_a_run_exists
