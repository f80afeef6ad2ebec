use Rattle.std.proofs.Common.{◌≡◌, take}
use Rattle.pg_span_text.specs.Seen.{tables_below}
use Rattle.pg_span_text.proofs.seen.tables_below.Given as goal

abbrev pub invariant-loop-one : goal.invariant-loop-one
invariant-loop-one l = l.tables.items ≡ tables_below l.cfg (take l.one-index l.seen)
