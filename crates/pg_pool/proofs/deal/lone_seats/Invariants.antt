use Rattle.pg_pool.proofs.Deals.{Lone}
use Rattle.pg_pool.proofs.deal.lone_seats.Given as goal

abbrev pub invariant-loop-number : goal.invariant-loop-number
invariant-loop-number l = Lone l.round l.size l.checkers l.number l.seats.items
