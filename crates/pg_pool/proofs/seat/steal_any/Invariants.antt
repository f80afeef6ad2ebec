use Rattle.std.proofs.Common.{◌≡◌}
use Rattle.pg_pool.specs.Ways.{reached}
use Rattle.pg_pool.proofs.seat.steal_any.Given as goal

abbrev pub invariant-loop-k : goal.invariant-loop-k
invariant-loop-k l = reached l.other_deques.items ≡ reached l.initial.other_deques.items
