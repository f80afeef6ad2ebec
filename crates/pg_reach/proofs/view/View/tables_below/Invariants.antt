use Rattle.std.proofs.Common.{take}
use Rattle.pg_reach.specs.Reaching.{AreBelow}
use Rattle.pg_reach.proofs.view.View.tables_below.Given as goal

abbrev pub invariant-loop-x : goal.invariant-loop-x
invariant-loop-x l = AreBelow l.self.run l.self.walker l.level l.low (take l.x-index l.above) l.nexts
