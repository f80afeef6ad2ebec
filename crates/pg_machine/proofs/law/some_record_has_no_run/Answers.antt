use Rattle.pg_machine.proofs.NoRun.{no_run}
use Rattle.pg_machine.proofs.law.some_record_has_no_run.Goals as goal

pub returns : goal.returns
returns c = no_run
