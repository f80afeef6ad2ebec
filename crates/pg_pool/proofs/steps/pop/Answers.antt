use Rattle.pg_pool.proofs.Rules.{takes}
use Rattle.pg_pool.proofs.steps.pop.Goals as goal

pub pop_as-requires-clause-fifo : goal.pop_as-requires-clause-fifo
pop_as-requires-clause-fifo c = λ _. takes _ _
