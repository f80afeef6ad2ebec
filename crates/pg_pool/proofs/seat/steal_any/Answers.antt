use Rattle.std.proofs.Common.{rules, ◌∙◌, subst, List, set}
use Rattle.pg_pool.specs.Seats.{Part, TookFrom}
use Rattle.pg_pool.specs.Ways.{reached}
use Rattle.pg_pool.proofs.Seats.{reached-same, reached-took}
use Rattle.pg_pool.proofs.seat.steal_any.Goals as goal

pub returns-in-Some : goal.returns-in-Some
returns-in-Some c =
    let t = reached-took c.loop-k.other_deques.items c.loop-k.k c.index_mut-other_deque.result.now c.steal.new.self c.in-Some.number (search rules) c.index_mut-other_deque.ensures.value c.steal.ensures.same c.in-Some.ensures.took in
    subst (λ (l : List Part). TookFrom l c.in-Some.number (reached (set c.loop-k.other_deques.items c.loop-k.k c.steal.new.self))) c.loop-k.invariant t

pub loop-k-preserved : goal.loop-k-preserved
loop-k-preserved c = reached-same c.loop-k.other_deques.items c.loop-k.k c.index_mut-other_deque.result.now c.steal.new.self c.index_mut-other_deque.ensures.value c.steal.ensures.same c.in_default.ensures.took ∙ c.loop-k.invariant
