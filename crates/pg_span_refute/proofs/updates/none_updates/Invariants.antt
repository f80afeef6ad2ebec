use Rattle.std.proofs.Common.{◌≡◌, ℕ, true, take}
use Rattle.pg_machine.specs.Machine.{IsIn}
use Rattle.pg_span_refute.specs.Caches.{may_update_entry}
use Rattle.pg_span_refute.proofs.updates.none_updates.Given as goal

abbrev pub invariant-loop-entry : goal.invariant-loop-entry
invariant-loop-entry l = (entry : ℕ) → IsIn entry (take l.entry-index l.entries) → may_update_entry l.header.cfg l.update.kind l.update.dirty l.table entry ≡ true → ⊥
