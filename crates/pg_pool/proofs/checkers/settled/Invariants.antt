use Rattle.std.proofs.Common.{◌≡◌, ◌++◌, map, Ok}
use Rattle.std.specs.Vec.Iter.{into_iter_items}
use Rattle.pg_pool.proofs.checkers.settled.Given as goal

abbrev pub invariant-loop-one : goal.invariant-loop-one
invariant-loop-one g l = record {
  items : l.fn.done.items ≡ map (λ d. Ok d) l.all.items ++ into_iter_items l.one-iterator;
}
