use Rattle.std.proofs.Common.{ℕ, ◌-◌, ◌+◌, ◌<◌, ◌≤◌, ◌^◌}
use Rattle.pg_timeline.proofs.Halves.{Searched, Reaches}
use Rattle.pg_timeline.proofs.timeline.count_between.Given as goal

abbrev pub invariant-loop-low : goal.invariant-loop-low
invariant-loop-low g l =
    (l.fn.probes ≤ l.probes) × Searched l.stamps l.fn.moment l.low l.high
    × ((n : ℕ) → l.fn.to < l.fn.from + 2 ^ n → Reaches l.low l.high l.probes (l.fn.probes + n))

abbrev pub decreases-loop-low : goal.decreases-loop-low
decreases-loop-low g l = l.high - l.low
