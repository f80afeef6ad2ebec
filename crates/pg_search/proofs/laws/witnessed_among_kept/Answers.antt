use Rattle.pg_search.proofs.Changes.{witnessed_among_kept}
use Rattle.pg_search.proofs.laws.witnessed_among_kept.Goals as goal

pub returns : goal.returns
returns c = witnessed_among_kept
