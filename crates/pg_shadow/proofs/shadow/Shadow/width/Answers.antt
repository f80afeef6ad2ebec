use Rattle.std.proofs.Common.{refl}
use Rattle.pg_shadow.specs.Held.{seen}
use Rattle.pg_shadow.proofs.shadow.Shadow.width.Goals as goal

pub returns-clause-value : goal.returns-clause-value
unfolding seen
returns-clause-value c = rw (← c.self.view_is) refl

pub returns-clause-within : goal.returns-clause-within
unfolding seen
returns-clause-within c = (c.self.invariant.least, c.self.invariant.most)
