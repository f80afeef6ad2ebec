use Rattle.pg_certify.proofs.Meaning.{certified_events_run}
use Rattle.pg_certify.proofs.laws.certified_events_run.Goals as goal

pub returns : goal.returns
returns c = certified_events_run
