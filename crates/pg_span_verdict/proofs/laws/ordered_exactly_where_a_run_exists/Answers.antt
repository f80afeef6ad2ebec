use Rattle.pg_span_verdict.proofs.Meaning.{ordered_exactly_where_a_run_exists}
use Rattle.pg_span_verdict.proofs.laws.ordered_exactly_where_a_run_exists.Goals as goal

pub returns : goal.returns
returns c = ordered_exactly_where_a_run_exists c.certified_exactly_where_a_run_exists.ensures
