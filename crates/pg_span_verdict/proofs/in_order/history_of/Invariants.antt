use Rattle.std.proofs.Common.{◌≡◌, take}
use Rattle.pg_span_run.specs.Orders.{ordered}
use Rattle.pg_span_verdict.proofs.in_order.history_of.Given as goal

abbrev pub invariant-loop-number : goal.invariant-loop-number
invariant-loop-number l = record {
  head : l.history.head ≡ l.run.head;
  events : l.history.events ≡ ordered l.fn.run.events (take l.number-index l.order);
}
