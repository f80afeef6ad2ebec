use Rattle.std.proofs.Common.{take}
use Rattle.pg_reach.specs.Reaching.{AreRootsOf}
use Rattle.pg_reach.proofs.view.View.roots.Given as goal

abbrev pub invariant-loop-stay : goal.invariant-loop-stay
invariant-loop-stay l = AreRootsOf l.self.run l.self.walker (take l.stay-index l.stay-items) l.roots
