use Rattle.std.proofs.Common.{ℕ, ◌<◌, ◌≤◌, ◌+◌, ◌-◌}
use Rattle.std.specs.List.{All}
use Rattle.pg_reach.specs.Stays.{IsSteady, IsWithin, AreInOrder}
use Rattle.pg_reach.proofs.stays.spans_of.Given as goal

abbrev pub invariant-loop-at : goal.invariant-loop-at
invariant-loop-at l = record {
  order : l.low ≤ l.at;
  rising : AreInOrder l.spans.items;
  before : All (λ s. s.to < l.at) l.spans.items;
  each : All (IsSteady l.seen l.p) l.spans.items;
  all : (w : ℕ) → l.low ≤ w → w < l.at → IsWithin l.spans.items w;
}

abbrev pub decreases-loop-at : goal.decreases-loop-at
decreases-loop-at l = l.number + 1 - l.at
