use Rattle.std.proofs.Common.{◌+◌, ◌≤◌, length}
use Rattle.pg_codec.specs.Writing.{FitVersion}
use Rattle.pg_codec.proofs.Segments.{IsSegmenting}
use Rattle.pg_codec.proofs.writer.write_segments.Given as goal

abbrev pub invariant-loop-rest : goal.invariant-loop-rest
invariant-loop-rest g l = record {
  writing : IsSegmenting g.W.Sink l.header l.events l.fn.sink l.sink l.number l.rest;
  below : l.number + length l.rest ≤ length l.events;
  fit : FitVersion l.header.version l.rest;
}

abbrev pub decreases-loop-rest : goal.decreases-loop-rest
decreases-loop-rest g l = length l.rest
