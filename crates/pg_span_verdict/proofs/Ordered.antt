-- The events in an order, one after another.
use Rattle.std.proofs.Common.{◌≡◌, ℕ, ◌+◌, ◌<◌, List, [], ◌∷◌, ◌++◌, length, take, drop, get_or, sym, ap, subst, ◌∙◌, Some}
use Rattle.std.specs.Prelude.{slice_get}
use Rattle.std.specs.Option.{option_to_list}
use Rattle.std.proofs.lemmas.Grind.{flat_map-append}
use Rattle.std.proofs.lemmas.List.{take_more, take-append-drop}
use Rattle.std.proofs.lemmas.Option.{slice_get-get_or}
use Rattle.pg_event.specs.declared.event.Event.{Event}
use Rattle.pg_event.specs.Heads.{Head}
use Rattle.pg_check.specs.Kept.{AreWellFormed}
use Rattle.pg_certify.specs.Certified.{IsDenied}
use Rattle.pg_certify.proofs.Windows.{denied_more}
use Rattle.pg_span_run.specs.Orders.{ordered}

-- one event more
pub ordered_more : (events : List Event) (order : List ℕ) (k i : ℕ) (e : Event) → k < length order → i ≡ get_or order k 0 → i < length events → e ≡ get_or events i e → ordered events (take (k + 1) order) ≡ ordered events (take k order) ++ e ∷ []
ordered_more events order k i e within at low is =
    let front : take (k + 1) order ≡ take k order ++ i ∷ [] = take_more order k 0 within ∙ ap (λ j. take k order ++ j ∷ []) (sym at) in
    let own : ordered events (i ∷ []) ≡ e ∷ [] = ap (λ o. option_to_list o ++ []) (slice_get-get_or events i e low ∙ ap Some (sym is)) in
    ap (ordered events) front ∙ (flat_map-append (λ j. option_to_list (slice_get events j)) (take k order) (i ∷ []) ∙ ap (λ xs. ordered events (take k order) ++ xs) own)

-- events that stand after others are well formed where all are
pub well_behind : (head : Head) (xs ys : List Event) → AreWellFormed head (xs ++ ys) → AreWellFormed head ys
well_behind head [] ys well = well
well_behind head (x ∷ xs) ys well = well_behind head xs ys well.1

-- what is denied among the first events is denied among all
pub denied_in_all : (head : Head) (events : List Event) (numbers : List ℕ) (to n : ℕ) → IsDenied head (ordered events (take to numbers)) n → IsDenied head (ordered events numbers) n
denied_in_all head events numbers to n denied =
    let front : List Event = ordered events (take to numbers) in
    let rest : List Event = ordered events (drop to numbers) in
    let parts : ordered events (take to numbers ++ drop to numbers) ≡ front ++ rest = flat_map-append (λ j. option_to_list (slice_get events j)) (take to numbers) (drop to numbers) in
    let all : front ++ rest ≡ ordered events numbers = sym parts ∙ ap (ordered events) (take-append-drop to numbers) in
    subst (λ (es : List Event). IsDenied head es n) all (denied_more head front rest n denied)
