use Rattle.pg_pool.proofs.Rules.{takes}
use Rattle.pg_pool.proofs.steps.steal.Goals as goal

pub steal_as-requires-clause-takes : goal.steal_as-requires-clause-takes
steal_as-requires-clause-takes c = takes _ _
