use Rattle.std.proofs.Common.{length}
use Rattle.pg_event.specs.Spelling.{event_bytes}
use Rattle.pg_codec.specs.Writing.{segment_head_bytes}
use Rattle.pg_codec.proofs.Written.{IsWriting}
use Rattle.pg_codec.proofs.writer.write_segment.Given as goal

abbrev pub invariant-loop-event : goal.invariant-loop-event
invariant-loop-event g l = IsWriting g.W.Sink (event_bytes l.version) (segment_head_bytes l.number (length l.events)) l.events l.fn.sink l.sink l.block l.event-index
