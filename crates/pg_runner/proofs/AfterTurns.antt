-- What one turn leaves of a run of a script.
use Rattle.std.proofs.Common.{◌≡◌, ℕ, ◌+◌, ◌<◌, List, [], ◌∷◌, length, sym, ◌∙◌, ap, subst, arith, inl, inr}
use Rattle.std.specs.Prelude.{slice_get}
use Rattle.std.proofs.lemmas.Bool.{cases_eq}
use Rattle.std.proofs.lemmas.Option.{slice_get_within}
use Rattle.pg_guest.specs.declared.advance.Advance.{Advance}
use Rattle.pg_guest.specs.CoreRun.{IsCoreRun}
use Rattle.pg_guest.specs.Turn.{Processor}
use Rattle.pg_guest.proofs.CoreRuns.{set_other}
use Rattle.pg_world.specs.Recording.{Recording}
use Rattle.pg_runner.specs.Boards.{HasToldAll}
use Rattle.pg_runner.specs.Guests.{HaveToldAll, StayBut}

-- ---- the other processors

pub others_stay : (r end : Recording) (xs ys : List Processor) (p : ℕ) (a : Advance) → IsCoreRun r xs (p ∷ []) (a ∷ []) end ys → StayBut p xs ys
others_stay r end xs ys p a run q away = ap (λ (zs : List Processor). slice_get zs q) run.6.2 ∙ set_other xs p q run.1.processor away

pub stay_on : (p : ℕ) (xs ys zs : List Processor) → StayBut p xs ys → StayBut p ys zs → StayBut p xs zs
stay_on p xs ys zs first more q away = more q away ∙ first q away

-- so many of them have told all; one more has, and the others stay
pub one_more_told : (p : ℕ) (xs ys : List Processor) → ((q : ℕ) → q < p → HasToldAll q xs) → StayBut p xs ys → HasToldAll p ys → (q : ℕ) → q < p + 1 → HasToldAll q ys
one_more_told p xs ys told stay here q below =
    elim (cases_eq q p) [
      | inl same ↦ subst (λ k. HasToldAll k ys) (sym same) here
      | inr away ↦ λ x at. told q (omega (arith, below, away)) x (sym (stay q away) ∙ at)
    ]

pub all_told : (n : ℕ) (xs : List Processor) → n ≡ length xs → ((q : ℕ) → q < n → HasToldAll q xs) → HaveToldAll xs
all_told n xs same told p x at = told p (omega (arith, same, slice_get_within xs p x at)) x at
