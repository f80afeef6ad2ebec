use Rattle.std.proofs.Common.{◌∙◌}
use Rattle.crossbeam_deque.specs.Handles.{worker_view}
use Rattle.pg_pool.proofs.Deals.{dealt_kept, dealt_left}
use Rattle.pg_pool.proofs.deal.deal.Goals as goal
use Rattle.pg_pool.proofs.deal.deal.Goals.{then-n-round+in_ok-push, else-n-round}

pub loop-n-preserved : goal.loop-n-preserved
loop-n-preserved c = elim c.if-n-round.branch [
  | then-n-round+in_ok-push w ↦
      let was = c.loop-n.invariant in
      let more = dealt_kept c.args.round.first c.loop-n.n c.args.size c.args.checkers c.args.number (worker_view c.loop-n.deque) (worker_view w.push.new.deque) c.loop-n.auto.n w.if-n-round.true was.1 w.in_ok-push.ensures.pushed in
      rw w.deque-is (w.push.ensures.fifo ∙ was.0, more)
  | else-n-round w ↦
      let was = c.loop-n.invariant in
      rw w.deque-is (was.0, was.1 ∙ dealt_left c.args.round.first c.loop-n.n c.args.size c.args.checkers c.args.number c.loop-n.auto.n w.if-n-round.false)
]
