-- What a loop over a list keeps, from one element to the next.
use Rattle.std.proofs.Common.{◌≡◌, ℕ, zero, suc, ◌+◌, ◌<◌, ◌≤◌, List, [], ◌∷◌, ◌++◌, length, map, take, drop, get_or, Option, Some, None, refl, ap, sym, ◌∙◌, append_assoc, append-nil, arith}
use Rattle.std.proofs.Math.ListN.{drop_of_length-le}
use Rattle.std.specs.Option.{option_or}
use Rattle.std.proofs.lemmas.List.{drop_more, map_more}

-- what comes of what is left, as the text of it, where that of the next element was appended
pub next_written : {A B : Type 0} (rest after : List A → List B) (one : List B) (xs : List A) (i : ℕ) (d : A) (text new whole : List B) → i < length xs →
    rest (get_or xs i d ∷ drop (i + 1) xs) ≡ one ++ after (drop (i + 1) xs) → new ≡ text ++ one → text ++ rest (drop i xs) ≡ whole → new ++ after (drop (i + 1) xs) ≡ whole
next_written {B = B} rest after one xs i d text new whole within step is was =
    let left : List B = after (drop (i + 1) xs) in
    ap (λ t. t ++ left) is
    ∙ (append_assoc text one left
    ∙ (ap (λ t. text ++ t) (sym (ap rest (drop_more xs i d within) ∙ step)) ∙ was))

-- and where nothing comes of those after it
pub last_written : {A B : Type 0} (rest : List A → List B) (one : List B) (xs : List A) (i : ℕ) (d : A) (text new whole : List B) → i < length xs →
    rest (get_or xs i d ∷ drop (i + 1) xs) ≡ one → new ≡ text ++ one → text ++ rest (drop i xs) ≡ whole → new ≡ whole
last_written rest one xs i d text new whole within step is was = is ∙ (ap (λ t. text ++ t) (sym (ap rest (drop_more xs i d within) ∙ step)) ∙ was)

-- what is found in what is left, where the next element has nothing
pub next_passed : {A R : Type 0} (rest after : List A → Option R) (found : Option R) (xs : List A) (i : ℕ) (d : A) (whole : Option R) → i < length xs →
    rest (get_or xs i d ∷ drop (i + 1) xs) ≡ option_or found (after (drop (i + 1) xs)) → found ≡ None → rest (drop i xs) ≡ whole → after (drop (i + 1) xs) ≡ whole
next_passed rest after found xs i d whole within step none was =
    sym (ap (λ o. option_or o (after (drop (i + 1) xs))) none)
    ∙ (sym (ap rest (drop_more xs i d within) ∙ step) ∙ was)

-- the images of the first elements, with that of the next
pub next_mapped : {A B : Type 0} (f : A → B) (xs : List A) (i : ℕ) (d : A) (ys new : List B) (y : B) → i < length xs →
    new ≡ ys ++ y ∷ [] → y ≡ f (get_or xs i d) → ys ≡ map f (take i xs) → new ≡ map f (take (i + 1) xs)
next_mapped f xs i d ys new y within is one was =
    is ∙ (ap (λ zs. zs ++ y ∷ []) was ∙ (ap (λ z. map f (take i xs) ++ z ∷ []) one ∙ sym (map_more f xs i d within)))

-- where nothing is left
pub all_written : {A B : Type 0} (rest : List A → List B) (xs : List A) (i : ℕ) (text whole : List B) → length xs ≤ i → rest [] ≡ [] → text ++ rest (drop i xs) ≡ whole → text ≡ whole
all_written rest xs i text whole le none was = sym (append-nil text) ∙ (ap (λ t. text ++ t) (sym (ap rest (drop_of_length-le xs le) ∙ none)) ∙ was)

pub all_passed : {A R : Type 0} (rest : List A → Option R) (xs : List A) (i : ℕ) (whole : Option R) → length xs ≤ i → rest [] ≡ None → rest (drop i xs) ≡ whole → None ≡ whole
all_passed rest xs i whole le none was = sym (ap rest (drop_of_length-le xs le) ∙ none) ∙ was

pub all_taken : {A : Type 0} (xs : List A) (i : ℕ) → length xs ≤ i → take i xs ≡ xs
all_taken [] zero le = refl
all_taken [] (suc i) le = refl
all_taken (x ∷ xs) zero le = absurd (omega arith)
all_taken (x ∷ xs) (suc i) le = ap (λ ys. x ∷ ys) (all_taken xs i (omega arith))

-- where the next element has what is sought
pub next_found : {A R : Type 0} (rest : List A → Option R) (found others : Option R) (xs : List A) (i : ℕ) (d : A) (x : R) (whole : Option R) → i < length xs →
    rest (get_or xs i d ∷ drop (i + 1) xs) ≡ option_or found others → found ≡ Some x → rest (drop i xs) ≡ whole → Some x ≡ whole
next_found rest found others xs i d x whole within step is was =
    sym (ap (λ o. option_or o others) is) ∙ (sym (ap rest (drop_more xs i d within) ∙ step) ∙ was)
