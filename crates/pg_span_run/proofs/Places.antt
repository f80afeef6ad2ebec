-- Numbers of a list by their places.
use Rattle.std.proofs.Common.{◌≡◌, ℕ, zero, suc, ◌<◌, ◌≤◌, true, ◌||◌, List, [], ◌∷◌, length, get_or, refl, sym, ap, subst, ◌∙◌, arith, inl, inr, Some, None, eqb, eq-eqb}
use Rattle.std.specs.Prelude.{slice_get}
use Rattle.std.specs.List.{AllByRecursion, Contains, list_any}
use Rattle.std.proofs.Math.Bool.{or-true}
use Rattle.std.proofs.lemmas.Bool.{cases_eq, cases_lt}
use Rattle.std.proofs.lemmas.Option.{slice_get-get_or, slice_get_within}
use Rattle.std.proofs.lemmas.Map.Steps.{le-length_from_below}

pub some_same : (x y : ℕ) → Some x ≡ Some y → x ≡ y
some_same x y h = cc

pub none_at : {X : Type 0} (xs : List X) (i : ℕ) → length xs ≤ i → slice_get xs i ≡ None
none_at [] i le = refl
none_at (y ∷ ys) zero le = absurd (omega (arith, le))
none_at (y ∷ ys) (suc i) le = none_at ys i (omega (arith, le))

-- what was read at a place, whatever stands past the end
pub read_at : (xs : List ℕ) (i x : ℕ) → i < length xs → x ≡ get_or xs i x → x ≡ get_or xs i 0
read_at xs i x lt is = is ∙ some_same (get_or xs i x) (get_or xs i 0) (sym (slice_get-get_or xs i x lt) ∙ slice_get-get_or xs i 0 lt)

-- what holds of each element holds of the one at a place
pub AllByRecursion-at : {X : Type 0} (P : X → Type 0) (xs : List X) (i : ℕ) (x : X) → AllByRecursion P xs → slice_get xs i ≡ Some x → P x
AllByRecursion-at P [] i x all h = absurd (cc)
AllByRecursion-at P (y ∷ ys) zero x all h = let same : y ≡ x = cc in subst P same all.0
AllByRecursion-at P (y ∷ ys) (suc i) x all h = AllByRecursion-at P ys i x all.1 h

-- a list without the element at a place
without : List ℕ → ℕ → List ℕ
without [] a = []
without (y ∷ ys) zero = ys
without (y ∷ ys) (suc a) = y ∷ without ys a

length-without : (xs : List ℕ) (a : ℕ) → a < length xs → suc (length (without xs a)) ≡ length xs
unfolding without
length-without [] a lt = absurd (omega (arith, lt))
length-without (y ∷ ys) zero lt = refl
length-without (y ∷ ys) (suc a) lt = ap suc (length-without ys a (omega (arith, lt)))

any_here : (x y : ℕ) (ys : List ℕ) → y ≡ x → list_any (eqb x) (y ∷ ys) ≡ true
any_here x y ys same = ap (λ b. b || list_any (eqb x) ys) (eq-eqb x y (sym same))

any_there : (x y : ℕ) (ys : List ℕ) → list_any (eqb x) ys ≡ true → list_any (eqb x) (y ∷ ys) ≡ true
any_there x y ys h = ap (λ b. eqb x y || b) h ∙ or-true (eqb x y)

any_at : (xs : List ℕ) (k x : ℕ) → slice_get xs k ≡ Some x → list_any (eqb x) xs ≡ true
any_at [] k x h = absurd (cc)
any_at (y ∷ ys) zero x h = any_here x y ys (cc)
any_at (y ∷ ys) (suc k) x h = any_there x y ys (any_at ys k x h)

-- another element stays
stays : (xs : List ℕ) (a k x : ℕ) → (k ≡ a → ⊥) → slice_get xs k ≡ Some x → list_any (eqb x) (without xs a) ≡ true
unfolding without
stays [] a k x other h = absurd (cc)
stays (y ∷ ys) zero zero x other h = absurd (other refl)
stays (y ∷ ys) zero (suc k) x other h = any_at ys k x h
stays (y ∷ ys) (suc a) zero x other h = any_here x y (without ys a) (cc)
stays (y ∷ ys) (suc a) (suc k) x other h = any_there x y (without ys a) (stays ys a k x (λ same. other (ap suc same)) h)

-- so many numbers that have all below their count among them
pub record AreAll (xs : List ℕ) (n : ℕ) : Type 0 where
  pub count : length xs ≡ n
  pub each : (i : ℕ) → i < n → Contains xs i

-- so each number has a place, and another than that of another number
elsewhere : (xs : List ℕ) (n : ℕ) → AreAll xs n → (a i q : ℕ) → slice_get xs a ≡ Some i → (i ≡ q → ⊥) → q < n → list_any (eqb q) (without xs a) ≡ true
elsewhere xs n all a i q at_a differs lt =
    let there = all.each q lt in
    let at_k : slice_get xs there.0 ≡ Some q = slice_get-get_or xs there.0 q there.1 ∙ ap Some there.2 in
    stays xs a there.0 q (λ same. differs (some_same i q (sym at_a ∙ (ap (slice_get xs) (sym same) ∙ at_k)))) at_k

-- none of them can be missed
none_spare : (xs : List ℕ) (n : ℕ) → AreAll xs n → (a i : ℕ) → slice_get xs a ≡ Some i → ((q : ℕ) → q < n → list_any (eqb q) (without xs a) ≡ true) → ⊥
none_spare xs n all a i at_a rest =
    let many : n ≤ length (without xs a) = le-length_from_below (without xs a) n rest in
    omega (arith, many, all.count, length-without xs a (slice_get_within xs a i at_a))

-- so none stands there twice
pub stands_once : (xs : List ℕ) (n : ℕ) → AreAll xs n → (a b i : ℕ) → slice_get xs a ≡ Some i → slice_get xs b ≡ Some i → a ≡ b
stands_once xs n all a b i at_a at_b = elim (cases_eq a b) [
  | inl same ↦ same
  | inr other ↦ absurd (none_spare xs n all a i at_a (λ q lt. elim (cases_eq i q) [
    | inl own ↦ stays xs a b q (λ same. other (sym same)) (at_b ∙ ap Some own)
    | inr differs ↦ elsewhere xs n all a i q at_a differs lt
  ]))
]

-- and each of them is below their count
pub stands_below : (xs : List ℕ) (n : ℕ) → AreAll xs n → (a i : ℕ) → slice_get xs a ≡ Some i → i < n
stands_below xs n all a i at_a = elim (cases_lt i n) [
  | inl low ↦ low
  | inr high ↦ absurd (none_spare xs n all a i at_a (λ q lt. elsewhere xs n all a i q at_a (λ same. omega (arith, same, high, lt)) lt))
]
