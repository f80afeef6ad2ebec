use Rattle.std.proofs.Common.{◌≡◌, ◌+◌, ◌≤◌, ◌++◌, length}
use Rattle.std.specs.List.{zip}
use Rattle.pg_codec.specs.Writing.{FitVersion}
use Rattle.pg_span_run.specs.Spelling.{timed_segments_bytes}
use Rattle.pg_span_run.proofs.spelling.add_segments.Given as goal

abbrev pub invariant-loop-events : goal.invariant-loop-events
invariant-loop-events l = record {
  spelled : l.bytes.items ++ timed_segments_bytes l.header l.number (length l.events) (zip l.events l.backs) ≡ l.fn.bytes.items ++ timed_segments_bytes l.header 0 (length l.fn.events) (zip l.fn.events l.fn.backs);
  same : length l.backs ≡ length l.events;
  below : l.number + length l.events ≤ length l.fn.events;
  fit : FitVersion l.header.version l.events;
}

abbrev pub decreases-loop-events : goal.decreases-loop-events
decreases-loop-events l = length l.events
