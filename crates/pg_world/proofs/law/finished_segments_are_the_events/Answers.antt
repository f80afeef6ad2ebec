use Rattle.pg_world.proofs.Segments.{finished_segments_are_the_events}
use Rattle.pg_world.proofs.law.finished_segments_are_the_events.Goals as goal

pub returns : goal.returns
returns c = finished_segments_are_the_events
