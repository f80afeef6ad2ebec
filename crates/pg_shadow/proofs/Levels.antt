-- Levels by their shifts, and equal numbers.
use Rattle.std.proofs.Common.{◌≡◌, ℕ, nat_eq, inl, inr, sym, ◌∙◌, eq-eqb, refl, arith}
use Rattle.std.proofs.lemmas.Bool.{cases_Bool, eqb-true, false≢true, false_from_ne_true}
use Rattle.pg_entry.specs.declared.Level.{Level}
use Rattle.pg_entry.specs.declared.Level.TheVariants.{Four, Three, Two, One}
use Rattle.pg_event.specs.Invalidation.{level_shift}

pub level_same : (a b : Level) → level_shift a ≡ level_shift b → a ≡ b
level_same Four Four h = refl
level_same Four Three h = absurd (omega arith)
level_same Four Two h = absurd (omega arith)
level_same Four One h = absurd (omega arith)
level_same Three Four h = absurd (omega arith)
level_same Three Three h = refl
level_same Three Two h = absurd (omega arith)
level_same Three One h = absurd (omega arith)
level_same Two Four h = absurd (omega arith)
level_same Two Three h = absurd (omega arith)
level_same Two Two h = refl
level_same Two One h = absurd (omega arith)
level_same One Four h = absurd (omega arith)
level_same One Three h = absurd (omega arith)
level_same One Two h = absurd (omega arith)
level_same One One h = refl

-- the test of equal numbers goes both ways
pub nat_eq-comm : (a b : ℕ) → nat_eq a b ≡ nat_eq b a
nat_eq-comm a b =
    elim (cases_Bool (nat_eq a b)) [
      | inl same ↦ same ∙ sym (eq-eqb b a (sym (eqb-true a b same)))
      | inr other ↦ other ∙ sym (false_from_ne_true (nat_eq b a) (λ e. false≢true (sym other ∙ eq-eqb a b (sym (eqb-true b a e)))))
    ]
