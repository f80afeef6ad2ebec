use Rattle.pg_span_run.proofs.Ends.{no_other_order}
use Rattle.pg_span_run.proofs.order_laws.no_other_order.Goals as goal

pub returns : goal.returns
returns c = no_other_order
