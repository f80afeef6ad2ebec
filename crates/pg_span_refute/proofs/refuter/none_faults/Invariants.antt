use Rattle.std.proofs.Common.{◌≡◌, ℕ, take}
use Rattle.pg_entry.specs.Kinds.{kind_of}
use Rattle.pg_machine.specs.Machine.{IsIn}
use Rattle.pg_span_refute.specs.Caches.{kind_for}
use Rattle.pg_span_refute.proofs.refuter.none_faults.Given as goal

abbrev pub invariant-loop-entry : goal.invariant-loop-entry
invariant-loop-entry l = (entry : ℕ) → IsIn entry (take l.entry-index l.entries) → kind_of l.header.cfg l.table.level entry ≡ kind_for l.cause → ⊥
