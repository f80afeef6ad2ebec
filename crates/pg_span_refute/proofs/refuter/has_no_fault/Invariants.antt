use Rattle.std.proofs.Common.{◌≡◌, ℕ, take}
use Rattle.pg_entry.specs.Kinds.{kind_of}
use Rattle.pg_machine.specs.Machine.{IsIn}
use Rattle.pg_span_refute.specs.declared.table.Table.{Table}
use Rattle.pg_span_refute.specs.Caches.{kind_for, word_in}
use Rattle.pg_span_refute.specs.Memory.{MayHold}
use Rattle.pg_span_refute.specs.Words.{AreWordsOf}
use Rattle.pg_span_refute.proofs.refuter.has_no_fault.Given as goal

abbrev pub invariant-loop-held : goal.invariant-loop-held
invariant-loop-held l = record {
  words : AreWordsOf l.run.events l.words.words.items;
  none : (t : Table) → IsIn t (take l.held-index l.caches.tables.items) → t.pcid ≡ l.caches.control.pcid → (entry : ℕ) → MayHold l.run l.slot (word_in l.asked.la t) entry →
      kind_of l.run.head.cfg t.level entry ≡ kind_for l.cause → ⊥;
}
