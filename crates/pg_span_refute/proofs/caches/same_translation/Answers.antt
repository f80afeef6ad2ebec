use Rattle.std.proofs.Common.{◌≡◌, ◌∙◌, Bool, true, false, not, refl, sym}
use Rattle.std.proofs.Math.Bool.{and_assoc}
use mathlib.Core.Bool.{beq}
use Rattle.pg_event.specs.Invalidation.{xor}
use Rattle.pg_machine.specs.Machine.{same_translation}
use Rattle.pg_machine.proofs.Same.{translation_same}
use Rattle.pg_span_refute.proofs.caches.same_translation.Goals as goal

beq_xor : (a b : Bool) → beq a b ≡ not (xor a b)
beq_xor true true = refl
beq_xor true false = refl
beq_xor false true = refl
beq_xor false false = refl

pub returns : goal.returns
returns c =
    let same : c.eq.result ≡ same_translation c.args.a.now c.args.b.now = c.eq.ensures ∙ simp (and_assoc, beq_xor) in
    λ yes. translation_same c.args.a.now c.args.b.now (sym same ∙ yes)
