use Rattle.pg_certify.proofs.Meaning.{denied_events_have_no_run}
use Rattle.pg_certify.proofs.laws.denied_events_have_no_run.Goals as goal

pub returns : goal.returns
returns c = denied_events_have_no_run c.unwitnessed_events_have_no_run.ensures
