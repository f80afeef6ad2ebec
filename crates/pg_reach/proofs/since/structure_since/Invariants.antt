use Rattle.std.proofs.Common.{◌≡◌, ℕ, ◌<◌, ◌≤◌, ◌-◌, false}
use Rattle.pg_reach.specs.Bounds.{structure_up_to}
use Rattle.pg_reach.proofs.since.structure_since.Given as goal

abbrev pub invariant-loop-low : goal.invariant-loop-low
invariant-loop-low l = record {
  order : l.low ≤ l.high;
  within : l.high ≤ l.to;
  none : (w : ℕ) → w < l.low → structure_up_to l.seen l.walker l.level l.to w ≡ false;
}

abbrev pub decreases-loop-low : goal.decreases-loop-low
decreases-loop-low l = l.high - l.low
