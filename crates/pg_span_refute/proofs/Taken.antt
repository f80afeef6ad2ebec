-- Elements of the front of a list.
use Rattle.std.proofs.Common.{◌≡◌, ◌⊎◌, ℕ, zero, suc, ◌+◌, ◌<◌, ◌≤◌, List, [], ◌∷◌, ◌++◌, length, get_or, take, drop, refl, ap, sym, ◌∙◌, subst, arith, inl, inr, Some}
use Rattle.std.specs.Prelude.{slice_get}
use Rattle.std.specs.List.{AllByRecursion}
use Rattle.std.proofs.lemmas.List.{take_more}
use Rattle.pg_machine.specs.Machine.{IsIn}

pub in_left : {X : Type 0} (x : X) (xs ys : List X) → IsIn x xs → IsIn x (xs ++ ys)
in_left x [] ys h = absurd h
in_left x (y ∷ xs) ys (inl e) = inl e
in_left x (y ∷ xs) ys (inr h) = inr (in_left x xs ys h)

pub in_right : {X : Type 0} (x : X) (xs ys : List X) → IsIn x ys → IsIn x (xs ++ ys)
in_right x [] ys h = h
in_right x (y ∷ xs) ys h = inr (in_right x xs ys h)

pub in_either : {X : Type 0} (x : X) (xs ys : List X) → IsIn x (xs ++ ys) → IsIn x xs ⊎ IsIn x ys
in_either x [] ys h = inr h
in_either x (y ∷ xs) ys (inl e) = inl (inl e)
in_either x (y ∷ xs) ys (inr h) = elim (in_either x xs ys h) [ inl a ↦ inl (inr a) | inr b ↦ inr b ]

-- the element at a place is in the list
pub in_at : {X : Type 0} (xs : List X) (i : ℕ) (x : X) → i < length xs → x ≡ get_or xs i x → IsIn x xs
in_at [] i x lt is = absurd (omega (arith, lt))
in_at (y ∷ ys) zero x lt is = inl (sym is)
in_at (y ∷ ys) (suc i) x lt is = inr (in_at ys i x (omega (arith, lt)) is)

-- what holds of the first so many and of the next holds of one more
pub one_more : {X : Type 0} (P : X → Type 0) (xs : List X) (i : ℕ) (x : X) → i < length xs → x ≡ get_or xs i x → ((y : X) → IsIn y (take i xs) → P y) → P x →
    (y : X) → IsIn y (take (i + 1) xs) → P y
one_more P xs i x lt is before here y h =
    let more : take (i + 1) xs ≡ take i xs ++ x ∷ [] = take_more xs i x lt ∙ ap (λ z. take i xs ++ z ∷ []) (sym is) in
    elim (in_either y (take i xs) (x ∷ []) (subst (IsIn y) more h)) [
      | inl a ↦ before y a
      | inr b ↦ elim b [ inl e ↦ subst P e here | inr none ↦ absurd none ]
    ]

pub none_taken : {X : Type 0} (P : X → Type 0) (xs : List X) (y : X) → IsIn y (take 0 xs) → P y
none_taken P [] y h = absurd h
none_taken P (x ∷ xs) y h = absurd h

pub take_all : {X : Type 0} (xs : List X) (n : ℕ) → length xs ≤ n → take n xs ≡ xs
take_all [] zero le = refl
take_all [] (suc n) le = refl
take_all (x ∷ xs) zero le = absurd (omega (arith, le))
take_all (x ∷ xs) (suc n) le = ap (λ ys. x ∷ ys) (take_all xs n (omega (arith, le)))

-- what holds of each element holds of one of the list
pub all_in : {X : Type 0} (P : X → Type 0) (xs : List X) (x : X) → AllByRecursion P xs → IsIn x xs → P x
all_in P [] x all h = absurd h
all_in P (y ∷ ys) x all (inl e) = subst P e all.0
all_in P (y ∷ ys) x all (inr h) = all_in P ys x all.1 h

-- the same, of lists whose elements are numbers or records of them
pub in_get : {X : Type 0} (xs : List X) (i : ℕ) (d : X) → i < length xs → IsIn (get_or xs i d) xs
in_get [] i d lt = absurd (omega (arith, lt))
in_get (y ∷ ys) zero d lt = inl refl
in_get (y ∷ ys) (suc i) d lt = inr (in_get ys i d (omega (arith, lt)))

pub one_more_get : {X : Type 0} (P : X → Type 0) (xs : List X) (i : ℕ) (d : X) → i < length xs → ((y : X) → IsIn y (take i xs) → P y) → P (get_or xs i d) →
    (y : X) → IsIn y (take (i + 1) xs) → P y
one_more_get P xs i d lt before here y h =
    elim (in_either y (take i xs) (get_or xs i d ∷ []) (subst (IsIn y) (take_more xs i d lt) h)) [
      | inl a ↦ before y a
      | inr b ↦ elim b [ inl e ↦ subst P e here | inr none ↦ absurd none ]
    ]

pub all_more : {X : Type 0} (P : X → Type 0) (xs : List X) (x : X) → AllByRecursion P xs → P x → AllByRecursion P (xs ++ x ∷ [])
all_more P [] x all h = (h, tt)
all_more P (y ∷ ys) x all h = (all.0, all_more P ys x all.1 h)

pub got_last : {X : Type 0} (xs : List X) (x : X) → slice_get (xs ++ x ∷ []) (length xs) ≡ Some x
got_last [] x = refl
got_last (y ∷ ys) x = got_last ys x

-- what is after the first so many is in the list
pub in_drop : {X : Type 0} (xs : List X) (n : ℕ) (x : X) → IsIn x (drop n xs) → IsIn x xs
in_drop [] zero x h = absurd h
in_drop [] (suc n) x h = absurd h
in_drop (y ∷ ys) zero x h = h
in_drop (y ∷ ys) (suc n) x h = inr (in_drop ys n x h)

pub in_front : {X : Type 0} (xs : List X) (n : ℕ) (x : X) → IsIn x (take n xs) → IsIn x xs
in_front [] zero x h = absurd h
in_front [] (suc n) x h = absurd h
in_front (y ∷ ys) zero x h = absurd h
in_front (y ∷ ys) (suc n) x (inl e) = inl e
in_front (y ∷ ys) (suc n) x (inr h) = inr (in_front ys n x h)

pub in_part : {X : Type 0} (xs : List X) (n m : ℕ) (x : X) → IsIn x (take m (drop n xs)) → IsIn x xs
in_part xs n m x h = in_drop xs n x (in_front (drop n xs) m x h)
