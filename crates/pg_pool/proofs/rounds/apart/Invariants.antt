use Rattle.std.proofs.Common.{◌≡◌, ◌++◌, map}
use Rattle.std.specs.Vec.Iter.{into_iter_items}
use Rattle.pg_pool.proofs.rounds.apart.Given as goal

abbrev pub invariant-loop-one : goal.invariant-loop-one
invariant-loop-one g l = record {
  seats : map (λ d. d.seat) l.fn.done.items ≡ l.seats.items ++ map (λ d. d.seat) (into_iter_items l.one-iterator);
  states : map (λ d. d.state) l.fn.done.items ≡ l.states.items ++ map (λ d. d.state) (into_iter_items l.one-iterator);
}
