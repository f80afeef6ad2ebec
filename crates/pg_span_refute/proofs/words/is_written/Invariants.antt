use Rattle.std.proofs.Common.{take}
use Rattle.pg_machine.specs.Machine.{IsIn}
use Rattle.pg_span_refute.specs.declared.words.Written.{Written}
use Rattle.pg_span_refute.specs.Memory.{IsPast}
use Rattle.pg_span_refute.proofs.words.is_written.Given as goal

abbrev pub invariant-loop-written : goal.invariant-loop-written
invariant-loop-written l = (w : Written) → IsIn w (take l.written-index l.writes) → IsPast l.run l.slot w.number → ⊥
