use Rattle.std.proofs.Common.{◌≡◌, true, []}
use Rattle.crossbeam_deque.specs.Handles.{worker_view, worker_flavor}
use Rattle.pg_pool.specs.Rounds.{round, dealt}
use Rattle.pg_pool.specs.DequeRule.{deque_view}
use Rattle.pg_pool.proofs.deal.deal.Given as goal

abbrev pub invariant-loop-n : goal.invariant-loop-n
invariant-loop-n l = (worker_flavor l.deque ≡ 0) × (worker_view l.deque ≡ deque_view true (dealt (round l.round.first l.n) l.size l.checkers l.number) [])
