use Rattle.pg_explain.proofs.Counts.{add_up}
use Rattle.pg_explain.proofs.tallier.counts_add_up.Goals as goal

pub returns : goal.returns
returns c = add_up
