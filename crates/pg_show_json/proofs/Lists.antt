-- Lists of values, beside the trees that they are.
use Rattle.std.proofs.Common.{◌≡◌, ℕ, zero, suc, ◌+◌, ◌<◌, ◌≤◌, List, [], ◌∷◌, ◌++◌, length, map, take, get_or, refl, ap, sym, ◌∙◌, arith}
use Rattle.std.proofs.lemmas.List.{map_more}
use Rattle.serde_json.specs.Data.{item}
use Rattle.serde_json.specs.View.{items_of as joined}
use Rattle.pg_show_json.specs.Tree.{Json, elements, data_of, items_of}

-- the data of trees, one by one, are those of the list
pub elements_are : (js : List Json) → items_of (elements js) ≡ joined (map data_of js)
elements_are [] = refl
elements_are (j ∷ js) = ap (item (data_of j)) (elements_are js)

pub fused : {A : Type 0} (f : A → Json) (xs : List A) → map data_of (map f xs) ≡ map (λ x. data_of (f x)) xs
fused f [] = refl
fused f (x ∷ xs) = ap (λ ds. data_of (f x) ∷ ds) (fused f xs)

-- the images of the first elements, with that of the next
pub next_mapped : {A B : Type 0} (f : A → B) (xs : List A) (i : ℕ) (d : A) (ys new : List B) (y : B) → i < length xs →
    new ≡ ys ++ y ∷ [] → y ≡ f (get_or xs i d) → ys ≡ map f (take i xs) → new ≡ map f (take (i + 1) xs)
next_mapped f xs i d ys new y within is one was =
    is ∙ (ap (λ zs. zs ++ y ∷ []) was ∙ (ap (λ z. map f (take i xs) ++ z ∷ []) one ∙ sym (map_more f xs i d within)))

-- where nothing is left
pub all_taken : {A : Type 0} (xs : List A) (i : ℕ) → length xs ≤ i → take i xs ≡ xs
all_taken [] zero le = refl
all_taken [] (suc i) le = refl
all_taken (x ∷ xs) zero le = absurd (omega arith)
all_taken (x ∷ xs) (suc i) le = ap (λ ys. x ∷ ys) (all_taken xs i (omega arith))
