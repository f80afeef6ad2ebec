use Rattle.pg_pool.specs.Seats.{Deques}
use Rattle.pg_pool.proofs.Deals.{Seated}
use Rattle.pg_pool.proofs.deal.open_blocks.Given as goal

abbrev pub invariant-loop-place : goal.invariant-loop-place
invariant-loop-place l = (deques : Deques) × Seated deques l.fn.round l.size l.checkers l.place l.seats.items
