use Rattle.std.proofs.Common.{◌≡◌, ◌-◌, ◌++◌, map}
use Rattle.std.specs.List.{range_with_len}
use Rattle.pg_pool.specs.Seats.{way_to}
use Rattle.pg_pool.specs.Ways.{reached}
use Rattle.pg_pool.proofs.deal.reach.Given as goal

abbrev pub invariant-loop-owner : goal.invariant-loop-owner
invariant-loop-owner l =
    (l.seats.items ≡ l.initial.seats.items)
    × (reached l.other_deques.items ≡ reached l.initial.other_deques.items ++ map (way_to l.initial.seats.items) (range_with_len l.from (l.owner - l.from)))
