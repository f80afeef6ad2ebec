use Rattle.pg_span_run.proofs.Kept.{spans_are_as_stamped}
use Rattle.pg_span_run.proofs.log_laws.spans_are_as_stamped.Goals as goal

pub returns : goal.returns
returns c = spans_are_as_stamped
