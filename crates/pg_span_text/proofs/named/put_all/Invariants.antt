use Rattle.std.proofs.Common.{◌≡◌, take}
use Rattle.pg_span_text.specs.Named.{put_all}
use Rattle.pg_span_text.proofs.named.put_all.Given as goal

abbrev pub invariant-loop-one : goal.invariant-loop-one
invariant-loop-one l = l.names.items ≡ put_all l.fn.names.items (take l.one-index l.seen)
