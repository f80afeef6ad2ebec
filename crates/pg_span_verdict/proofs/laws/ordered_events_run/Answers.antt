use Rattle.pg_span_verdict.proofs.Meaning.{ordered_events_run}
use Rattle.pg_span_verdict.proofs.laws.ordered_events_run.Goals as goal

pub returns : goal.returns
returns c = ordered_events_run c.certified_events_run.ensures
