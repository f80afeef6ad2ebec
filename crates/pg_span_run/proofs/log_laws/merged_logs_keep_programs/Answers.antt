use Rattle.pg_span_run.proofs.Kept.{merged_logs_keep_programs}
use Rattle.pg_span_run.proofs.log_laws.merged_logs_keep_programs.Goals as goal

pub returns : goal.returns
returns c = merged_logs_keep_programs
