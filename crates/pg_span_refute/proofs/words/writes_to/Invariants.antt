use Rattle.std.proofs.Common.{take}
use Rattle.pg_span_refute.specs.Words.{AreWritesTo}
use Rattle.pg_span_refute.proofs.words.writes_to.Given as goal

abbrev pub invariant-loop-number : goal.invariant-loop-number
invariant-loop-number l = AreWritesTo (take l.number l.events) l.address l.writes.items
