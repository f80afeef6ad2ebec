-- Elements of lists by their places.
use Rattle.std.proofs.Common.{◌≡◌, ℕ, zero, suc, ◌+◌, ◌<◌, List, [], ◌∷◌, ◌++◌, length, get_or, refl, sym, ap, subst, ◌∙◌, arith, inl, inr, Some}
use Rattle.std.specs.Prelude.{slice_get}
use Rattle.std.specs.List.{All}
use Rattle.std.proofs.lemmas.Bool.{cases_lt}
use Rattle.std.proofs.lemmas.Option.{slice_get-get_or, slice_get_within, get_or_from_slice_get}

pub found : {X : Type 0} (xs : List X) (i : ℕ) (x : X) → i < length xs → x ≡ get_or xs i x → slice_get xs i ≡ Some x
found xs i x lt is = slice_get-get_or xs i x lt ∙ ap Some (sym is)

-- what holds of the elements before one and of that one
pub one_more : {X : Type 0} (P : X → Type 0) (xs : List X) (i : ℕ) (x : X) → i < length xs → x ≡ get_or xs i x → ((k : ℕ) (d : X) → k < i → P (get_or xs k d)) → P x → (k : ℕ) (d : X) → k < i + 1 → P (get_or xs k d)
one_more P xs i x lt is all one k d less = elim (cases_lt k i) [
  | inl before ↦ all k d before
  | inr more ↦
      let same : i ≡ k = omega (arith, less, more) in
      let here : get_or xs k d ≡ x = subst (λ n. get_or xs n d ≡ x) same (get_or_from_slice_get xs i x d (found xs i x lt is)) in
      subst P (sym here) one
]

pub all_at : {X : Type 0} (P : X → Type 0) (xs : List X) (i : ℕ) (d : X) → i < length xs → All P xs → P (get_or xs i d)
all_at P xs i d lt all = all i d lt

-- an element that differs from each before it
pub pairs_more : {X : Type 0} (R : X → X → Type 0) (xs : List X) (i : ℕ) (x : X) → i < length xs → x ≡ get_or xs i x → ((j k : ℕ) (d : X) → j < k → k < i → R (get_or xs j d) (get_or xs k d)) → ((j : ℕ) (d : X) → j < i → R (get_or xs j d) x) →
    (j k : ℕ) (d : X) → j < k → k < i + 1 → R (get_or xs j d) (get_or xs k d)
pairs_more R xs i x lt is all one j k d rises less = elim (cases_lt k i) [
  | inl before ↦ all j k d rises before
  | inr more ↦
      let same : i ≡ k = omega (arith, less, more) in
      let here : get_or xs k d ≡ x = subst (λ n. get_or xs n d ≡ x) same (get_or_from_slice_get xs i x d (found xs i x lt is)) in
      subst (R (get_or xs j d)) (sym here) (one j d (omega (arith, rises, same)))
]

pub all_found : {X : Type 0} (P : X → Type 0) (xs : List X) (i : ℕ) (x : X) → All P xs → slice_get xs i ≡ Some x → P x
all_found P xs i x all there = subst P (get_or_from_slice_get xs i x x there) (all_at P xs i x (slice_get_within xs i x there) all)

-- the elements of a list, and one more

pub pushed_before : {X : Type 0} (xs : List X) (y : X) (i : ℕ) (x : X) → slice_get xs i ≡ Some x → slice_get (xs ++ y ∷ []) i ≡ Some x
pushed_before [] y i x h = absurd (cc)
pushed_before (z ∷ zs) y zero x h = h
pushed_before (z ∷ zs) y (suc i) x h = pushed_before zs y i x h

pub pushed_last : {X : Type 0} (xs : List X) (y : X) (i : ℕ) → length xs ≡ i → slice_get (xs ++ y ∷ []) i ≡ Some y
pushed_last [] y zero h = refl
pushed_last [] y (suc i) h = absurd (omega (arith, h))
pushed_last (z ∷ zs) y zero h = absurd (omega (arith, h))
pushed_last (z ∷ zs) y (suc i) h = pushed_last zs y i (omega (arith, h))
