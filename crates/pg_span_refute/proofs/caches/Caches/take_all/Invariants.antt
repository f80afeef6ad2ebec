use Rattle.std.proofs.Common.{ℕ, take}
use Rattle.pg_machine.specs.Machine.{IsIn}
use Rattle.pg_span_refute.specs.Caches.{Extends, IsTaken, known_of}
use Rattle.pg_span_refute.proofs.caches.Caches.take_all.Given as goal

abbrev pub invariant-loop-entry : goal.invariant-loop-entry
invariant-loop-entry l = record {
  more : Extends (known_of l.fn.self) (known_of l.self);
  taken : (entry : ℕ) → IsIn entry (take l.entry-index l.entries) → IsTaken l.version l.cfg l.la (known_of l.self) l.table entry;
}
