use Rattle.std.proofs.Common.{take}
use Rattle.pg_inval.specs.Lists.{ArePushed}
use Rattle.pg_inval.proofs.lists.push_moments.Given as goal

abbrev pub invariant-loop-key : goal.invariant-loop-key
invariant-loop-key l = ArePushed l.fn.by_key.entries l.by_key.entries (take l.key-index l.fn.keys) l.fn.moment
