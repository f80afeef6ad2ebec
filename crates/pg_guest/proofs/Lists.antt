-- The lists of the processors, after an empty one more or an instruction more.
use Rattle.std.proofs.Common.{◌≡◌, ◌≢◌, ◌<◌, ◌∙◌, ◌++◌, ℕ, zero, suc, Bool, true, false, List, [], ◌∷◌, length, get_or, set, map, refl, sym, ap, eqb, get_or-set_same, get_or-set_other}
use Rattle.std.specs.Prelude.{Vec}
use Rattle.std.proofs.lemmas.List.{map-append, map-set, append-nil, length-map, get_or-map, set-get_or}
use Rattle.std.proofs.lemmas.Bool.{eqb-true, eqb-false}
use Rattle.pg_guest.specs.declared.instruction.Instruction.{Instruction}
use Rattle.pg_guest.specs.Dealt.{list_at, own_of}

grown : {A : Type 0} (lists : List (List A)) (p : ℕ) → get_or (lists ++ [] ∷ []) p [] ≡ get_or lists p []
grown [] zero = refl
grown [] (suc p) = refl
grown (list ∷ lists) zero = refl
grown (list ∷ lists) (suc p) = grown lists p

-- an empty list more
pub list_at_grown : {A : Type 0} (lists : List (Vec Instruction A)) (list : Vec Instruction A) (p : ℕ) → list.items ≡ [] → list_at (lists ++ list ∷ []) p ≡ list_at lists p
list_at_grown {A} lists list p empty =
    let items : Vec Instruction A → List Instruction = λ v. v.items in
    ap (λ ls. get_or ls p []) (map-append items lists (list ∷ []) ∙ ap (λ is. map items lists ++ is ∷ []) empty)
    ∙ grown (map items lists) p

-- an instruction more in one list
pub list_at_pushed : {A : Type 0} (lists : List (Vec Instruction A)) (place : ℕ) (list : Vec Instruction A) (instruction : Instruction) (p : ℕ) → place < length lists → list.items ≡ list_at lists place ++ instruction ∷ []
    → list_at (set lists place list) p ≡ list_at lists p ++ own_of place p instruction
list_at_pushed {A} lists place list instruction p within pushed =
    let items : Vec Instruction A → List Instruction = λ v. v.items in
    ap (λ ls. get_or ls p []) (map-set items lists place list) ∙ go (eqb place p) refl
  where
    all : List (List Instruction)
    all = map (λ v. v.items) lists

    go : (b : Bool) → eqb place p ≡ b → get_or (set all place list.items) p [] ≡ get_or all p [] ++ own_of place p instruction
    go true is =
        let same = eqb-true place p is in
        let here : get_or (set all place list.items) place [] ≡ list.items = get_or-set_same all place list.items [] (rw length-map within) in
        rw is (rw (← same) (here ∙ pushed))
    go false is =
        let other : p ≢ place = λ e. eqb-false place p is (sym e) in
        rw is (get_or-set_other all place p list.items [] other ∙ sym (append-nil (get_or all p [])))

-- the list at a place, as it lies in the vector
pub list_at_is : {A : Type 0} (lists : List (Vec Instruction A)) (place : ℕ) (list : Vec Instruction A) → place < length lists → list ≡ get_or lists place list → list.items ≡ list_at lists place
list_at_is {A} lists place list within is =
    let items : Vec Instruction A → List Instruction = λ v. v.items in
    ap items is ∙ sym (get_or-map items lists place list [] within)

-- a list in the place of one with the same instructions
pub list_at_same : {A : Type 0} (lists : List (Vec Instruction A)) (place : ℕ) (list : Vec Instruction A) (p : ℕ) → place < length lists → list.items ≡ list_at lists place → list_at (set lists place list) p ≡ list_at lists p
list_at_same {A} lists place list p within same =
    let items : Vec Instruction A → List Instruction = λ v. v.items in
    ap (λ ls. get_or ls p []) (map-set items lists place list ∙ ap (λ is. set (map items lists) place is) same ∙ set-get_or (map items lists) place [])
