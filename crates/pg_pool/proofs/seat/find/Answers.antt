use Rattle.pg_pool.specs.Seats.{part_of}
use Rattle.pg_pool.proofs.Seats.{took_own, found_other}
use Rattle.pg_pool.proofs.seat.find.Goals as goal

pub returns-in-Some-clause-found : goal.returns-in-Some-clause-found
returns-in-Some-clause-found c = took_own _ _ _ _ _ _ (λ i. (c.pop.ensures.same.1 i).0) c.in-Some.ensures.took

pub returns-in-None-clause-found : goal.returns-in-None-clause-found
returns-in-None-clause-found c = found_other _ _ _ _ _ (λ i. part_of (c.pop.ensures.same.1 i).0 (c.in-None.ensures.took i)) c.steal_any.ensures
