use Rattle.std.proofs.Common.{◌≤◌, ◌-◌, length, take}
use Rattle.pg_certify.specs.Windows.{IsCertifying}
use Rattle.pg_span_run.specs.Orders.{ordered}
use Rattle.pg_span_verdict.proofs.in_order.first_denied_in.Given as goal

abbrev pub invariant-loop-from : goal.invariant-loop-from
invariant-loop-from l = record {
  low : l.from ≤ length l.numbers;
  certifying : IsCertifying l.certifying l.run.head (ordered l.run.events (take l.from l.numbers));
}

abbrev pub decreases-loop-from : goal.decreases-loop-from
decreases-loop-from l = length l.numbers - l.from
