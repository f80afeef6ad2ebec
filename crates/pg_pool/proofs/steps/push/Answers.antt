use Rattle.pg_pool.proofs.Rules.{pushes}
use Rattle.pg_pool.proofs.steps.push.Goals as goal

pub push_as-requires-clause-pushes : goal.push_as-requires-clause-pushes
push_as-requires-clause-pushes c = pushes _ _ _ c.requires
