use Rattle.std.proofs.Common.{◌≡◌, ◌++◌, drop}
use Rattle.pg_span_text.specs.Seen.{seen_from}
use Rattle.pg_span_text.proofs.seen.push_written.Given as goal

abbrev pub invariant-loop-place : goal.invariant-loop-place
invariant-loop-place l =
    l.seen.items ++ seen_from l.cfg l.walk l.level l.address (drop l.place l.writes)
    ≡ l.fn.seen.items ++ seen_from l.cfg l.walk l.level l.address l.writes
