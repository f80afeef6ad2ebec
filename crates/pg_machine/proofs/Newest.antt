-- A list that is kept with its newest element last.
use Rattle.std.proofs.Common.{◌≡◌, ◌++◌, Bool, true, false, not, List, [], ◌∷◌, reverse, filter, refl, ap, sym, ◌∙◌, if◌then◌else◌}
use Rattle.std.specs.List.{list_any}
use Rattle.std.proofs.lemmas.List.{reverse-append}
use Rattle.std.proofs.lemmas.List.Elements.{filter-append}
use Rattle.std.proofs.lemmas.List.Sorted.{IsPermutation-reverse, list_any-IsPermutation}

-- at most one element is the same from both ends
filtered_one : {X : Type 0} (test : X → Bool) (x : X) → reverse (filter test (x ∷ [])) ≡ filter test (x ∷ [])
filtered_one test x = by_test (test x)
  where
    by_test : (b : Bool) → reverse (if b then x ∷ [] else []) ≡ (if b then x ∷ [] else [])
    by_test true = refl
    by_test false = refl

pub filter-reverse : {X : Type 0} (test : X → Bool) (xs : List X) → filter test (reverse xs) ≡ reverse (filter test xs)
filter-reverse test [] = refl
filter-reverse test (x ∷ xs) =
    let one = filter test (x ∷ []) in
    let rest = filter test xs in
    ap (filter test) (reverse-append (x ∷ []) xs)
    ∙ (filter-append test (reverse xs) (x ∷ [])
    ∙ (ap (λ ys. ys ++ one) (filter-reverse test xs)
    ∙ (ap (λ ys. reverse rest ++ ys) (sym (filtered_one test x))
    ∙ (sym (reverse-append one rest) ∙ ap reverse (sym (filter-append test (x ∷ []) xs))))))

-- whether some element passes does not depend on the order
pub any-reverse : {X : Type 0} (test : X → Bool) (xs : List X) → list_any test xs ≡ list_any test (reverse xs)
any-reverse test xs = list_any-IsPermutation test xs (reverse xs) (IsPermutation-reverse xs)

-- what takes nothing out leaves all
pub kept_whole : {X : Type 0} (takes : X → Bool) → ((x : X) → takes x ≡ false) → (xs : List X) → filter (λ x. not (takes x)) xs ≡ xs
kept_whole takes none [] = refl
kept_whole takes none (x ∷ xs) = rw (none x) (ap (λ ys. x ∷ ys) (kept_whole takes none xs))
