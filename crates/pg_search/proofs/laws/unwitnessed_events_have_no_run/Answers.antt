use Rattle.pg_search.proofs.Runs.{unwitnessed_events_have_no_run}
use Rattle.pg_search.proofs.laws.unwitnessed_events_have_no_run.Goals as goal

pub returns : goal.returns
returns c = unwitnessed_events_have_no_run
