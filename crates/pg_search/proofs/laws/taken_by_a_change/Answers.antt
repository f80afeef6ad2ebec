use Rattle.pg_search.proofs.Changes.{taken_by_a_change}
use Rattle.pg_search.proofs.laws.taken_by_a_change.Goals as goal

pub returns : goal.returns
returns c = taken_by_a_change
