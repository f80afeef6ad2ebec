use Rattle.std.proofs.Common.{ℕ, ◌+◌, ◌<◌, ◌≤◌}
use Rattle.pg_span_run.specs.Orders.{MustPrecede}
use Rattle.pg_span_run.proofs.only.has_one_order.Given as goal

abbrev pub invariant-loop-next : goal.invariant-loop-next
invariant-loop-next l = record {
  low : 1 ≤ l.next;
  each : (i : ℕ) → i + 1 < l.next → MustPrecede l.run i (i + 1);
}
