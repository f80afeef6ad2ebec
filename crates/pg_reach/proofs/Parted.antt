-- Spans by parts, after an empty part more or a span more.
use Rattle.std.proofs.Common.{◌≡◌, ◌≢◌, ◌+◌, ◌%◌, ◌<◌, ◌∙◌, ◌++◌, ℕ, zero, suc, Bool, true, false, List, [], ◌∷◌, length, get_or, set, map, take, refl, sym, ap, subst, eqb, get_or-set_same, get_or-set_other}
use Rattle.std.specs.Prelude.{Vec}
use Rattle.std.proofs.lemmas.List.{map-append, map-set, append-nil, length-map, get_or-map, take_more}
use Rattle.std.proofs.lemmas.Bool.{eqb-true, eqb-false}
use Rattle.pg_event.specs.declared.control.Control.{Control}
use Rattle.pg_timeline.specs.declared.timeline.Span.{Span}
use Rattle.pg_reach.specs.Stays.{AreInOrder}
use Rattle.pg_reach.specs.Parts.{part_at, own_of, ArePart}
use Rattle.pg_reach.proofs.Spans.{no_span, those_more, those_other}

grown : {A : Type 0} (lists : List (List A)) (p : ℕ) → get_or (lists ++ [] ∷ []) p [] ≡ get_or lists p []
grown [] zero = refl
grown [] (suc p) = refl
grown (list ∷ lists) zero = refl
grown (list ∷ lists) (suc p) = grown lists p

-- an empty part more
pub part_at_grown : {A : Type 0} (parts : List (Vec (Span Control) A)) (part : Vec (Span Control) A) (k : ℕ) → part.items ≡ [] → part_at (parts ++ part ∷ []) k ≡ part_at parts k
part_at_grown {A} parts part k empty =
    let items : Vec (Span Control) A → List (Span Control) = λ v. v.items in
    ap (λ ls. get_or ls k []) (map-append items parts (part ∷ []) ∙ ap (λ is. map items parts ++ is ∷ []) empty)
    ∙ grown (map items parts) k

-- a span more in one part
pub part_at_pushed : {A : Type 0} (parts : List (Vec (Span Control) A)) (place : ℕ) (part : Vec (Span Control) A) (span : Span Control) (k : ℕ) → place < length parts → part.items ≡ part_at parts place ++ span ∷ []
    → part_at (set parts place part) k ≡ part_at parts k ++ own_of place k span
part_at_pushed {A} parts place part span k within pushed =
    let items : Vec (Span Control) A → List (Span Control) = λ v. v.items in
    ap (λ ls. get_or ls k []) (map-set items parts place part) ∙ go (eqb place k) refl
  where
    all : List (List (Span Control))
    all = map (λ v. v.items) parts

    go : (b : Bool) → eqb place k ≡ b → get_or (set all place part.items) k [] ≡ get_or all k [] ++ own_of place k span
    go true is =
        let same = eqb-true place k is in
        let here : get_or (set all place part.items) place [] ≡ part.items = get_or-set_same all place part.items [] (rw length-map within) in
        rw is (rw (← same) (here ∙ pushed))
    go false is =
        let other : k ≢ place = λ e. eqb-false place k is (sym e) in
        rw is (get_or-set_other all place k part.items [] other ∙ sym (append-nil (get_or all k [])))

-- the part at a place, as it lies in the vector
pub part_at_is : {A : Type 0} (parts : List (Vec (Span Control) A)) (place : ℕ) (part : Vec (Span Control) A) → place < length parts → part ≡ get_or parts place part → part.items ≡ part_at parts place
part_at_is {A} parts place part within is =
    let items : Vec (Span Control) A → List (Span Control) = λ v. v.items in
    ap items is ∙ sym (get_or-map items parts place part [] within)

-- the spans of a part, one span more
pub part_more : (xs : List (Span Control)) (i k : ℕ) (olds : List (Span Control)) → AreInOrder xs → i < length xs → ArePart k (take i xs) olds →
    ArePart k (take (i + 1) xs) (olds ++ own_of ((get_or xs i no_span).value.pcid % 64) k (get_or xs i no_span))
part_more xs i k olds order lt h =
    subst (λ (ys : List (Span Control)). ArePart k ys (olds ++ own_of ((get_or xs i no_span).value.pcid % 64) k (get_or xs i no_span))) (sym (take_more xs i no_span lt)) (go (eqb ((get_or xs i no_span).value.pcid % 64) k) refl)
  where
    go : (b : Bool) → eqb ((get_or xs i no_span).value.pcid % 64) k ≡ b → ArePart k (take i xs ++ get_or xs i no_span ∷ []) (olds ++ own_of ((get_or xs i no_span).value.pcid % 64) k (get_or xs i no_span))
    go true is = rw is (those_more (λ q. q % 64) k xs i olds order lt h (eqb-true _ k is))
    go false is = rw is (rw append-nil (those_other (λ q. q % 64) k (take i xs) olds (get_or xs i no_span) h (eqb-false _ k is)))
