use Rattle.std.proofs.Common.{◌+◌, ◌≤◌, [], length}
use Rattle.pg_span_verdict.specs.Steps.{steps, left}
use Rattle.pg_span_verdict.specs.Trying.{IsTrying}
use Rattle.pg_span_verdict.proofs.trying.try_orders.Given as goal

abbrev pub invariant-loop : goal.invariant-loop
invariant-loop l = record {
  trying : IsTrying l.run l.trying;
  made : l.counter + left (length l.run.events) [] l.trying.front.items l.trying.next ≤ steps (length l.run.events) (length l.run.events);
}
