use Rattle.pg_span_run.proofs.Ends.{ends_are_an_order}
use Rattle.pg_span_run.proofs.order_laws.ends_are_an_order.Goals as goal

pub returns : goal.returns
returns c = ends_are_an_order
