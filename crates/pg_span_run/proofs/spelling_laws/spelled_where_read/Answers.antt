use Rattle.pg_span_run.proofs.Readings.{spelled_where_read}
use Rattle.pg_span_run.proofs.spelling_laws.spelled_where_read.Goals as goal

pub returns : goal.returns
returns c = spelled_where_read
