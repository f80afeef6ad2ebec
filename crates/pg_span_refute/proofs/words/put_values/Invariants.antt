use Rattle.std.proofs.Common.{take}
use Rattle.pg_machine.specs.Machine.{IsIn}
use Rattle.pg_span_refute.specs.declared.words.Written.{Written}
use Rattle.pg_span_refute.proofs.Listing.{IsSeen}
use Rattle.pg_span_refute.proofs.words.put_values.Given as goal

abbrev pub invariant-loop-place : goal.invariant-loop-place
invariant-loop-place l = (w : Written) → IsIn w (take l.place l.writes) → IsSeen l.run l.slot l.writes l.assists l.values.items w
