use Rattle.pg_span_run.proofs.ReadLogs.{read_logs_are_logs}
use Rattle.pg_span_run.proofs.log_laws.read_logs_are_logs.Goals as goal

pub returns : goal.returns
returns c = read_logs_are_logs
