use Rattle.std.proofs.Common.{◌≡◌, ◌++◌, length, take}
use Rattle.std.specs.List.{flat_map, zip}
use Rattle.pg_codec.specs.Writing.{segment_head_bytes}
use Rattle.pg_span_run.specs.Spelling.{timed_bytes}
use Rattle.pg_span_run.proofs.spelling.add_segment.Given as goal

abbrev pub invariant-loop-i : goal.invariant-loop-i
invariant-loop-i l =
    l.bytes.items ≡ (l.fn.bytes.items ++ segment_head_bytes l.number (length l.events)) ++ flat_map (timed_bytes l.version) (take l.i (zip l.events l.backs))
