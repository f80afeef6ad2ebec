use Rattle.pg_run_of.proofs.Whole.{accepted_records_run}
use Rattle.pg_run_of.proofs.law.accepted_records_run.Goals as goal

pub returns : goal.returns
returns c = accepted_records_run
