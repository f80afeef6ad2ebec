use Rattle.std.proofs.Common.{take}
use Rattle.pg_span_refute.specs.Words.{IsNotSet}
use Rattle.pg_span_refute.proofs.words.may_be_set.Given as goal

abbrev pub invariant-loop-assist : goal.invariant-loop-assist
invariant-loop-assist l = IsNotSet l.run l.slot (take l.assist-index l.assists) l.write l.dirty
