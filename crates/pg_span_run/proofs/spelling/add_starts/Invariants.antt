use Rattle.std.proofs.Common.{◌≡◌, ◌++◌, take}
use Rattle.std.specs.List.{flat_map}
use Rattle.pg_event.specs.Spelling.{start_bytes}
use Rattle.pg_span_run.proofs.spelling.add_starts.Given as goal

abbrev pub invariant-loop-cr3 : goal.invariant-loop-cr3
invariant-loop-cr3 l = l.bytes.items ≡ l.fn.bytes.items ++ flat_map start_bytes (take l.cr3-index l.starts)
