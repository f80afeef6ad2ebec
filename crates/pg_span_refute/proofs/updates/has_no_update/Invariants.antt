use Rattle.std.proofs.Common.{◌≡◌, ℕ, true, take}
use Rattle.pg_machine.specs.Machine.{IsIn}
use Rattle.pg_span_refute.specs.declared.table.Table.{Table}
use Rattle.pg_span_refute.specs.Caches.{may_update_entry, word_in}
use Rattle.pg_span_refute.specs.Memory.{MayHold}
use Rattle.pg_span_refute.specs.Words.{AreWordsOf}
use Rattle.pg_span_refute.proofs.updates.has_no_update.Given as goal

abbrev pub invariant-loop-held : goal.invariant-loop-held
invariant-loop-held l = record {
  words : AreWordsOf l.run.events l.words.words.items;
  none : (t : Table) → IsIn t (take l.held-index l.caches.tables.items) → t.pcid ≡ l.caches.control.pcid → (entry : ℕ) → l.update.word ≡ word_in l.la t → MayHold l.run l.slot (word_in l.la t) entry →
      may_update_entry l.run.head.cfg l.update.kind l.update.dirty t entry ≡ true → ⊥;
}
