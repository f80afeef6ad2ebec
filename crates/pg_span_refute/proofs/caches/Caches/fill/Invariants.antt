use Rattle.std.proofs.Common.{◌≡◌, ◌≤◌, ℕ, take, length}
use Rattle.pg_entry.specs.declared.Level.TheVariants.{Four}
use Rattle.pg_event.specs.Walk.{root_of}
use Rattle.pg_machine.specs.Machine.{IsIn}
use Rattle.pg_span_refute.specs.declared.table.Table.{Table}
use Rattle.pg_span_refute.specs.Caches.{Extends, IsTaken, known_of, word_in}
use Rattle.pg_span_refute.specs.Memory.{MayHold}
use Rattle.pg_span_refute.specs.Words.{AreWordsOf}
use Rattle.pg_span_refute.proofs.caches.Caches.fill.Given as goal

abbrev pub invariant-loop-place : goal.invariant-loop-place
invariant-loop-place l = record {
  more : Extends (known_of l.fn.self) (known_of l.self);
  root : IsIn (record { level = Four; pcid = l.fn.self.control.pcid; from = root_of l.fn.self.control }) l.self.tables.items;
  words : AreWordsOf l.run.events l.words.words.items;
  within : l.place ≤ length l.self.tables.items;
  taken : (t : Table) → IsIn t (take l.place l.self.tables.items) → t.pcid ≡ l.fn.self.control.pcid → (entry : ℕ) → MayHold l.run l.slot (word_in l.la t) entry →
      IsTaken l.run.head.version l.run.head.cfg l.la (known_of l.self) t entry;
}
