use Rattle.std.proofs.Common.{◌≡◌, ◌-◌, length, true}
use Rattle.pg_span_run.specs.Reading.{next_segments_at}
use Rattle.pg_span_run.proofs.reader.read_segments.Given as goal

abbrev pub invariant-loop-number : goal.invariant-loop-number
invariant-loop-number l = record {
  same : next_segments_at (length l.bytes - l.number) l.run l.number l.full l.rest ≡ next_segments_at (length l.bytes) l.fn.run 0 true l.bytes;
}
