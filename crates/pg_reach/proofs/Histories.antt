-- Events of a history.
use Rattle.std.proofs.Common.{◌≡◌, ℕ, zero, suc, ◌<◌, List, [], ◌∷◌, length, Some, refl, subst, arith}
use Rattle.std.specs.Prelude.{slice_get}
use Rattle.std.specs.List.{AllByRecursion}
use Rattle.pg_event.specs.declared.event.Event.{Event}

pub some_same : (x y : Event) → Some x ≡ Some y → x ≡ y
some_same x y h = cc

pub all_at : (P : Event → Type 0) (xs : List Event) (i : ℕ) (x : Event) → AllByRecursion P xs → slice_get xs i ≡ Some x → P x
all_at P [] i x h e = absurd (cc)
all_at P (y ∷ ys) zero x h e = subst P (some_same y x e) h.0
all_at P (y ∷ ys) (suc i) x h e = all_at P ys i x h.1 e

-- the event with a number
pub event_there : (xs : List Event) (n : ℕ) → n < length xs → (e : Event) × (slice_get xs n ≡ Some e)
event_there [] n lt = absurd (omega (arith, lt))
event_there (x ∷ xs) zero lt = (x, refl)
event_there (x ∷ xs) (suc n) lt = event_there xs n (omega (arith, lt))
