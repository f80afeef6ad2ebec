use Rattle.std.proofs.Common.{ℕ, ◌<◌, ◌≤◌, ◌-◌, length, get_or}
use Rattle.pg_event.specs.declared.control.Control.{Control}
use Rattle.pg_timeline.specs.declared.timeline.Span.{Span}
use Rattle.pg_reach.proofs.stays.count_to.Given as goal

abbrev pub invariant-loop-low : goal.invariant-loop-low
invariant-loop-low l = record {
  order : l.low ≤ l.high;
  within : l.high ≤ length l.spans;
  before : (i : ℕ) (d : Span Control) → i < l.low → (get_or l.spans i d).from ≤ l.fn.moment;
  behind : (i : ℕ) (d : Span Control) → l.high ≤ i → i < length l.spans → l.fn.moment < (get_or l.spans i d).from;
}

abbrev pub decreases-loop-low : goal.decreases-loop-low
decreases-loop-low l = l.high - l.low
