use Rattle.std.proofs.Common.{◌≡◌, ◌-◌, ◌≤◌, ℕ, false, length, take}
use Rattle.pg_inval.specs.Lists.{has_drop}
use Rattle.pg_inval.proofs.log.count_without.Given as goal

abbrev pub invariant-loop-count : goal.invariant-loop-count
invariant-loop-count l = (l.count ≤ length l.log) × ((j : ℕ) → has_drop (take l.count l.log) l.key j ≡ false)

abbrev pub decreases-loop-count : goal.decreases-loop-count
decreases-loop-count l = length l.log - l.count
