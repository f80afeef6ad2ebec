use Rattle.std.proofs.Common.{◌≡◌, ◌++◌, ◌≤◌, take}
use Rattle.pg_span_run.specs.Orders.{ordered}
use Rattle.pg_span_verdict.proofs.in_order.events_between.Given as goal

abbrev pub invariant-loop-place : goal.invariant-loop-place
invariant-loop-place l = record {
  low : l.place ≤ l.to;
  events : ordered l.fn.run.events (take l.place l.numbers) ≡ ordered l.fn.run.events (take l.from l.numbers) ++ l.chosen.items;
}
