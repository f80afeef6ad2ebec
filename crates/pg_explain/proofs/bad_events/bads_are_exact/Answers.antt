use Rattle.pg_explain.proofs.Judged.{bads_exact}
use Rattle.pg_explain.proofs.bad_events.bads_are_exact.Goals as goal

pub returns : goal.returns
returns c = bads_exact
