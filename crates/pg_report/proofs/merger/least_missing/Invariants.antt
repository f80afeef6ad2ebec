use Rattle.std.proofs.Common.{ℕ, ◌-◌, ◌<◌, slice_index_or}
use Rattle.pg_pool.specs.Rounds.{IsIn}
use Rattle.pg_report.proofs.merger.least_missing.Given as goal

abbrev pub invariant-loop-number : goal.invariant-loop-number
invariant-loop-number l = (m : ℕ) → IsIn l.round m → m < l.number → 0 < slice_index_or l.counts (m - l.round.first) 0
