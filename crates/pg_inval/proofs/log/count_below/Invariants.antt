use Rattle.std.proofs.Common.{◌-◌}
use Rattle.pg_inval.proofs.Search.{Halved}
use Rattle.pg_inval.proofs.log.count_below.Given as goal

abbrev pub invariant-loop-low : goal.invariant-loop-low
invariant-loop-low l = Halved l.log l.fn.moment l.low l.high

abbrev pub decreases-loop-low : goal.decreases-loop-low
decreases-loop-low l = l.high - l.low
