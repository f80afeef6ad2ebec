-- Lists: filters, counts and facts of each element.
use Rattle.std.proofs.Common.{◌≡◌, ℕ, zero, suc, ◌+◌, ◌<◌, ◌≤◌, Bool, true, false, cond, ◌&&◌, List, [], ◌∷◌, ◌++◌, length, get_or, refl, arith, inl, inr}
use Rattle.std.specs.List.{AllByRecursion, filter, count_by}
use Rattle.std.specs.Prelude.{Result, Ok, Err, OnOk, IfOk}
use Rattle.std.proofs.lemmas.Bool.{cases_Bool}
use Rattle.std.proofs.lemmas.List.Sums.{sum_by-cons}

pub each_weaker : {X : Type 0} (P Q : X → Type 0) → ((x : X) → P x → Q x) → (xs : List X) → AllByRecursion P xs → AllByRecursion Q xs
each_weaker P Q f [] all = tt
each_weaker P Q f (x ∷ xs) all = (f x all.0, each_weaker P Q f xs all.1)

pub each_both : {X : Type 0} (P Q R : X → Type 0) → ((x : X) → P x → Q x → R x) → (xs : List X) → AllByRecursion P xs → AllByRecursion Q xs → AllByRecursion R xs
each_both P Q R f [] p q = tt
each_both P Q R f (x ∷ xs) p q = (f x p.0 q.0, each_both P Q R f xs p.1 q.1)

pub each_append : {X : Type 0} (P : X → Type 0) (xs ys : List X) → AllByRecursion P xs → AllByRecursion P ys → AllByRecursion P (xs ++ ys)
each_append P [] ys p q = q
each_append P (x ∷ xs) ys p q = (p.0, each_append P xs ys p.1 q)

pub each_filter : {X : Type 0} (P : X → Type 0) (p : X → Bool) (xs : List X) → AllByRecursion P xs → AllByRecursion P (filter p xs)
each_filter P p [] all = tt
each_filter P p (x ∷ xs) all = elim (cases_Bool (p x)) [
  | inl on ↦ rw on (all.0, each_filter P p xs all.1)
  | inr off ↦ rw off (each_filter P p xs all.1)
]

pub filter_all : {X : Type 0} (p : X → Bool) (xs : List X) → AllByRecursion (λ x. p x ≡ true) xs → filter p xs ≡ xs
filter_all p [] all = refl
filter_all p (x ∷ xs) all = rw (all.0, filter_all p xs all.1) refl

pub filter_none : {X : Type 0} (p : X → Bool) (xs : List X) → AllByRecursion (λ x. p x ≡ false) xs → filter p xs ≡ []
filter_none p [] all = refl
filter_none p (x ∷ xs) all = rw (all.0, filter_none p xs all.1) refl

pub filter_twice : {X : Type 0} (p q : X → Bool) (xs : List X) → filter p (filter q xs) ≡ filter (λ x. p x && q x) xs
filter_twice p q [] = refl
filter_twice p q (x ∷ xs) = elim (cases_Bool (q x)) [
  | inl kept ↦ elim (cases_Bool (p x)) [
    | inl on ↦ rw (kept, on, filter_twice p q xs) refl
    | inr off ↦ rw (kept, off) (filter_twice p q xs)
  ]
  | inr lost ↦ elim (cases_Bool (p x)) [
    | inl on ↦ rw (lost, on) (filter_twice p q xs)
    | inr off ↦ rw (lost, off) (filter_twice p q xs)
  ]
]

-- a test that holds of the first elements alone
pub counted : {X : Type 0} (p : X → Bool) (xs : List X) (r : ℕ) → r ≤ length xs → ((k : ℕ) (d : X) → k < r → p (get_or xs k d) ≡ true) → ((k : ℕ) (d : X) → r ≤ k → k < length xs → p (get_or xs k d) ≡ false) → count_by p xs ≡ r
counted p [] r le holds fails = omega (arith, le)
counted p (x ∷ xs) zero le holds fails =
    let here : cond {A = ℕ} (p x) 1 0 ≡ 0 = rw (fails 0 x (omega arith) (omega arith)) refl in
    let rest : count_by p xs ≡ 0 = counted p xs zero (omega arith) (λ k d lt. absurd (omega (arith, lt))) (λ k d low lt. fails (suc k) d (omega arith) (omega (arith, lt))) in
    let step : count_by p (x ∷ xs) ≡ cond {A = ℕ} (p x) 1 0 + count_by p xs = sum_by-cons (λ y. cond {A = ℕ} (p y) 1 0) x xs in
    omega (arith, here, rest, step)
counted p (x ∷ xs) (suc r) le holds fails =
    let here : cond {A = ℕ} (p x) 1 0 ≡ 1 = rw (holds 0 x (omega arith)) refl in
    let rest : count_by p xs ≡ r = counted p xs r (omega (arith, le)) (λ k d lt. holds (suc k) d (omega (arith, lt))) (λ k d low lt. fails (suc k) d (omega (arith, low)) (omega (arith, lt))) in
    let step : count_by p (x ∷ xs) ≡ cond {A = ℕ} (p x) 1 0 + count_by p xs = sum_by-cons (λ y. cond {A = ℕ} (p y) 1 0) x xs in
    omega (arith, here, rest, step)

pub ok_then : {A E : Type 0} (r : Result A E) (P Q : Type 0) → OnOk r P → (P → Q) → IfOk r (λ _. Q)
ok_then (Ok a) P Q h f = f h
ok_then (Err e) P Q h f = tt

-- a test that holds of some of the first so many elements alone
pub counted_most : {X : Type 0} (p : X → Bool) (xs : List X) (i : ℕ) → ((k : ℕ) (d : X) → i ≤ k → k < length xs → p (get_or xs k d) ≡ false) → count_by p xs ≤ i
counted_most p [] i fails = omega arith
counted_most p (x ∷ xs) zero fails = omega (arith, counted p (x ∷ xs) zero (omega arith) (λ k d lt. absurd (omega (arith, lt))) fails)
counted_most p (x ∷ xs) (suc i) fails =
    let rest : count_by p xs ≤ i = counted_most p xs i (λ k d low lt. fails (suc k) d (omega (arith, low)) (omega (arith, lt))) in
    let step : count_by p (x ∷ xs) ≡ cond {A = ℕ} (p x) 1 0 + count_by p xs = sum_by-cons (λ y. cond {A = ℕ} (p y) 1 0) x xs in
    elim (cases_Bool (p x)) [
      | inl on ↦ let here : cond {A = ℕ} (p x) 1 0 ≡ 1 = rw on refl in omega (arith, here, rest, step)
      | inr off ↦ let here : cond {A = ℕ} (p x) 1 0 ≡ 0 = rw off refl in omega (arith, here, rest, step)
    ]
