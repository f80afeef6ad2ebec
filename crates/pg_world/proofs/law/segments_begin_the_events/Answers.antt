use Rattle.pg_world.proofs.Segments.{segments_begin_the_events}
use Rattle.pg_world.proofs.law.segments_begin_the_events.Goals as goal

pub returns : goal.returns
returns c = segments_begin_the_events
