use Rattle.std.proofs.Common.{arith}
use Rattle.pg_pool.proofs.Seats.{IsSeat-took, was_pushed, fresh, marked}
use Rattle.pg_pool.proofs.seat.Seat.take.Goals as goal

pub overflow_sub-place : goal.overflow_sub-place
overflow_sub-place c = (c.self.invariant.1.deal.within c.in_ok-number.number (was_pushed _ _ _ c.in_ok-number.ensures.found)).0

pub index_mut-requires : goal.index_mut-requires
index_mut-requires c =
    let within = c.self.invariant.1.deal.within c.in_ok-number.number (was_pushed _ _ _ c.in_ok-number.ensures.found) in
    omega (arith, within.0, within.1, c.self.invariant.1.count)

pub invariant_of-self-2 : goal.invariant_of-self-2
invariant_of-self-2 c = (c.find.ensures.fifo, IsSeat-took _ _ _ _ _ c.self.invariant.1 c.in_ok-number.ensures.found)

pub returns-clause-took : goal.returns-clause-took
returns-clause-took c = rw (← c.self.view_is) c.in_ok-number.ensures.found

pub returns-clause-within : goal.returns-clause-within
returns-clause-within c =
    let within = c.self.invariant.1.deal.within c.in_ok-number.number (was_pushed _ _ _ c.in_ok-number.ensures.found) in
    rw (← c.self.view_is) within

pub returns-clause-fresh : goal.returns-clause-fresh
returns-clause-fresh c =
    rw (← c.self.view_is) (fresh _ _ _ c.in_ok-number.ensures.found c.self.invariant.1.deal.once c.self.invariant.1.took)

pub returns-clause-marked : goal.returns-clause-marked
returns-clause-marked c = rw (← c.self.view_is) (marked _ _ _ c.in_ok-number.ensures.found)
