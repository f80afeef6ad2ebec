use Rattle.std.proofs.Common.{◌≡◌, ℕ, ◌<◌, ◌≤◌, ◌-◌, false}
use Rattle.pg_reach.specs.Bounds.{translation_up_to}
use Rattle.pg_reach.proofs.since.translation_since.Given as goal

abbrev pub invariant-loop-low : goal.invariant-loop-low
invariant-loop-low l = record {
  order : l.low ≤ l.high;
  within : l.high ≤ l.walker.number;
  none : (w : ℕ) → w < l.low → translation_up_to l.seen l.walker l.shift l.global w ≡ false;
}

abbrev pub decreases-loop-low : goal.decreases-loop-low
decreases-loop-low l = l.high - l.low
