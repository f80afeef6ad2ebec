use Rattle.pg_search.proofs.Changes.{dropped_by_a_change}
use Rattle.pg_search.proofs.laws.dropped_by_a_change.Goals as goal

pub returns : goal.returns
returns c = dropped_by_a_change
