use Rattle.pg_run_of.proofs.Converse.{runs_are_accepted}
use Rattle.pg_run_of.proofs.law.runs_are_accepted.Goals as goal

pub returns : goal.returns
returns c = runs_are_accepted
