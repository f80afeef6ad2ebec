use Rattle.pg_span_run.proofs.Musts.{precedes_by_must}
use Rattle.pg_span_run.proofs.order_laws.precedes_by_must.Goals as goal

pub returns : goal.returns
returns c = precedes_by_must
