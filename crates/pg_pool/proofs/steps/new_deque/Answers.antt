use Rattle.pg_pool.proofs.Rules.{begins}
use Rattle.pg_pool.proofs.steps.new_deque.Goals as goal

pub fifo_as-requires : goal.fifo_as-requires
fifo_as-requires c = begins
