use Rattle.std.proofs.Common.{take}
use Rattle.pg_span_refute.specs.Words.{AreAssistsOf}
use Rattle.pg_span_refute.proofs.words.assists_of.Given as goal

abbrev pub invariant-loop-number : goal.invariant-loop-number
invariant-loop-number l = AreAssistsOf (take l.number l.events) l.address l.assists.items
