use Rattle.pg_pool.proofs.Rules.{forks}
use Rattle.pg_pool.proofs.steps.cut.Goals as goal

pub another-requires : goal.another-requires
another-requires c = forks _ _

pub returns-clause-same : goal.returns-clause-same
returns-clause-same c = (c.another.ensures.same.0.1, c.another.ensures.same.0.0)

pub returns-clause-owner : goal.returns-clause-owner
returns-clause-owner c = c.another.ensures.rule.0

pub returns-clause-token : goal.returns-clause-token
returns-clause-token c = (c.another.ensures.same.2, c.another.ensures.rule.1)
