use Rattle.std.proofs.Common.{refl}
use Rattle.pg_shadow.specs.Held.{seen}
use Rattle.pg_shadow.proofs.shadow.Shadow.control.Goals as goal

pub returns-clause-value : goal.returns-clause-value
unfolding seen
returns-clause-value c = rw (← c.self.view_is) refl
