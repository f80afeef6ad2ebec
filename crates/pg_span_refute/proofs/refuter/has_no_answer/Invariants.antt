use Rattle.std.proofs.Common.{◌≡◌, true, take}
use Rattle.pg_machine.specs.declared.step.Translation.{Translation}
use Rattle.pg_machine.specs.Machine.{Answers, IsIn, is_usable}
use Rattle.pg_span_refute.proofs.refuter.has_no_answer.Given as goal

abbrev pub invariant-loop-held : goal.invariant-loop-held
invariant-loop-held l = (x : Translation) → IsIn x (take l.held-index l.caches.translations.items) → is_usable l.caches.control l.asked.la x ≡ true →
    Answers l.header l.asked.kind l.asked.la x l.asked.outcome → ⊥
