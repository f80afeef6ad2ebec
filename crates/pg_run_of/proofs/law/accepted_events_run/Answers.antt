use Rattle.pg_run_of.proofs.Whole.{accepted_events_run}
use Rattle.pg_run_of.proofs.law.accepted_events_run.Goals as goal

pub returns : goal.returns
returns c = accepted_events_run
