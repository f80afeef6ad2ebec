use Rattle.std.proofs.Common.{◌≡◌, ◌++◌, drop}
use Rattle.pg_span_text.specs.Seen.{seen_at}
use Rattle.pg_span_text.proofs.seen.seen_at.Given as goal

abbrev pub invariant-loop-table : goal.invariant-loop-table
invariant-loop-table l =
    l.seen.items ++ seen_at l.run l.walk l.level (drop l.table-index l.tables)
    ≡ seen_at l.run l.walk l.level l.tables
