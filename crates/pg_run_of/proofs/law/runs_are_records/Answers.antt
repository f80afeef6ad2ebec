use Rattle.pg_run_of.proofs.Converse.{runs_are_records}
use Rattle.pg_run_of.proofs.law.runs_are_records.Goals as goal

pub returns : goal.returns
returns c = runs_are_records
