-- What threads gave back.
use Rattle.std.proofs.Common.{All, ◌≡◌, ℕ, ◌<◌, List, length, map, get_or, Result, Ok, Err, IfOk, IfErr, sym, ap, ◌∙◌, subst, arith}
use Rattle.std.proofs.lemmas.List.{length-map, get_or-map}
use Rattle.std.proofs.lemmas.List.Elements.{All-map}

pub if_both : {A E : Type 0} (P Q R : A → Type 0) (r : Result A E) → ((x : A) → P x → Q x → R x) → IfOk r P → IfOk r Q → IfOk r R
if_both P Q R (Ok x) f p q = f x p q
if_both P Q R (Err e) f p q = p

pub if_one : {A E : Type 0} (P R : A → Type 0) (r : Result A E) → ((x : A) → P x → R x) → IfOk r P → IfOk r R
if_one P R (Ok x) f p = f x p
if_one P R (Err e) f p = p

-- results of which each is Ok
pub all_ok : {T E : Type 0} (done : List (Result T E)) (all : List T) → done ≡ map (λ d. Ok d) all → All (λ d. IfErr d (λ _. ⊥)) done
all_ok {T = T} {E = E} done all is =
    let f : T → Result T E = λ x. Ok x in
    let good : Result T E → Type 0 = λ d. IfErr d (λ _. ⊥) in
    subst (λ (l : List (Result T E)). All good l) (sym is) (All-map good f all (λ k d less. tt))

-- what holds of each result that is Ok holds of all that were in them
pub all_kept : {T E : Type 0} (Q : T → Type 0) (done : List (Result T E)) (all : List T) → done ≡ map (λ d. Ok d) all → ((i : ℕ) (d : Result T E) → i < length done → IfOk (get_or done i d) Q) → All Q all
all_kept {T = T} {E = E} Q done all is each k d less =
    let f : T → Result T E = λ x. Ok x in
    let inside : k < length done = omega (arith, less, ap (λ (l : List (Result T E)). length l) is, length-map all f) in
    subst (λ (r : Result T E). IfOk r Q) (ap (λ (l : List (Result T E)). get_or l k (f d)) is ∙ get_or-map f all k d (f d) less) (each k (f d) inside)
