-- Beginnings of one list.
use Rattle.std.proofs.Common.{◌≡◌, ℕ, ◌≤◌, List, [], ◌∷◌, ◌++◌, length, take, drop, refl, ap, sym, ◌∙◌, arith, append_assoc}
use Rattle.std.proofs.lemmas.List.{append-nil, take-append-drop, drop_at}
use mathlib.Core.List.{IsPrefix}

-- each list begins with itself
pub begins_itself : {A : Type 0} (xs : List A) → IsPrefix xs xs
begins_itself xs = ([], append-nil xs)

pub begins_on : {A : Type 0} (xs ys zs : List A) → IsPrefix xs ys → IsPrefix ys zs → IsPrefix xs zs
begins_on xs ys zs p q = (p.0 ++ q.0, sym (append_assoc xs p.0 q.0) ∙ (ap (λ w. w ++ q.0) p.1 ∙ q.1))

-- two beginnings of one list that are as long are the same
pub as_long : {A : Type 0} (xs ys zs : List A) → IsPrefix xs zs → IsPrefix ys zs → length xs ≡ length ys → xs ≡ ys
as_long [] [] zs p q same = refl
as_long [] (y ∷ ys) zs p q same = absurd (omega (arith, same))
as_long (x ∷ xs) [] zs p q same = absurd (omega (arith, same))
as_long (x ∷ xs) (y ∷ ys) [] p q same = absurd (cc (p.1))
as_long (x ∷ xs) (y ∷ ys) (z ∷ zs) p q same =
    let heads : x ≡ y = cc (p.1, q.1) in
    let rest = as_long xs ys zs (p.0, cc (p.1)) (q.0, cc (q.1)) (omega (arith, same)) in
    cc (heads, rest)

-- a beginning as long as the whole is the whole
pub all_begun : {A : Type 0} (xs ys : List A) → IsPrefix xs ys → length ys ≤ length xs → xs ≡ ys
all_begun [] [] p le = refl
all_begun [] (y ∷ ys) p le = absurd (omega arith)
all_begun (x ∷ xs) [] p le = absurd (cc (p.1))
all_begun (x ∷ xs) (y ∷ ys) p le =
    let rest = all_begun xs ys (p.0, cc (p.1)) (omega arith) in
    cc (p.1, rest)

pub front_begins : {A : Type 0} (n : ℕ) (xs : List A) → IsPrefix (take n xs) xs
front_begins n xs = (drop n xs, take-append-drop n xs)

-- what comes behind a beginning lengthens it
pub begins_more : {A : Type 0} (xs ys all : List A) (n : ℕ) → length xs ≡ n → IsPrefix xs all → IsPrefix ys (drop n all) → IsPrefix (xs ++ ys) all
begins_more xs ys all n len p q =
    let rest : drop n all ≡ p.0 = ap (drop n) (sym p.1) ∙ drop_at xs p.0 n len in
    (q.0, append_assoc xs ys q.0 ∙ (ap (λ w. xs ++ w) (q.1 ∙ rest) ∙ p.1))

pub begins_with : {A : Type 0} (xs all : List A) → IsPrefix xs all → all ≡ xs ++ drop (length xs) all
begins_with xs all p =
    let rest : drop (length xs) all ≡ p.0 = ap (drop (length xs)) (sym p.1) ∙ drop_at xs p.0 (length xs) refl in
    sym p.1 ∙ ap (λ w. xs ++ w) (sym rest)
