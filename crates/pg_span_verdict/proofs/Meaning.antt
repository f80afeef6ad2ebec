-- What an answer means for runs of the machine.
use Rattle.std.proofs.Common.{◌≡◌, ℕ, zero, suc, ◌+◌, ◌-◌, ◌^◌, ◌<◌, ◌≤◌, List, [], ◌∷◌, length, take, map, arith, refl, sym, ap, subst, ◌∙◌, Option, Some, None}
use Rattle.std.specs.Prelude.{slice_get}
use Rattle.std.specs.Option.{option_to_list}
use Rattle.std.proofs.lemmas.List.{length-append}
use Rattle.std.proofs.lemmas.List.FromFn.{length-range_with_len, get_or-range_with_len}
use Rattle.std.proofs.lemmas.Option.{slice_get-get_or, slice_get_within}
use Rattle.pg_event.specs.declared.event.Event.{Event}
use Rattle.pg_event.specs.Heads.{Head}
use Rattle.pg_event.specs.Form.{broken_rule}
use Rattle.pg_check.specs.Kept.{AreWellFormed}
use Rattle.pg_check.proofs.Known.{AreWellFormed-append}
use Rattle.pg_machine.specs.Machine.{visible}
use Rattle.pg_run_of.specs.Converse.{without_moments}
use Rattle.pg_search.specs.Law.{RunBeginsWith}
use Rattle.pg_certify.specs.Certified.{IsDenied, HasRunButMoments, CertifiedEventsRun, CertifiedExactlyWhereARunExists, DeniedEventsHaveNoRun}
use Rattle.pg_span_run.specs.Orders.{Spanned}
use Rattle.pg_span_run.specs.Spanned.{IsSpanned}
use Rattle.pg_span_run.specs.OrderLaws.{ends, EachPrecedesNext, NoOtherOrder}
use Rattle.pg_span_run.proofs.Places.{AllByRecursion-at, some_same}
use Rattle.pg_span_run.specs.Orders.{ordered}
use Rattle.pg_span_refute.specs.declared.edge.Edge.{Edge}
use Rattle.pg_span_refute.specs.Supposed.{AreDeduced, AreOfEarlier}
use Rattle.pg_span_refute.specs.Orders.{RunComesTo, NeverComes}
use Rattle.pg_span_verdict.specs.Runs.{HasOrderedRun, OrderedEventsRun, OrderedExactlyWhereARunExists}

well_one : (head : Head) (events : List Event) (i : ℕ) (o : Option Event) → slice_get events i ≡ o → AreWellFormed head events → AreWellFormed head (option_to_list o)
well_one head events i None is well = tt
well_one head events i (Some e) is well = (AllByRecursion-at (λ x. broken_rule head x ≡ None) events i e well is, tt)

pub ordered-well : (head : Head) (events : List Event) (order : List ℕ) → AreWellFormed head events → AreWellFormed head (ordered events order)
ordered-well head events [] well = tt
ordered-well head events (i ∷ is) well = AreWellFormed-append head (option_to_list (slice_get events i)) (ordered events is) (well_one head events i (slice_get events i) refl well) (ordered-well head events is well)

one_at_most : (o : Option Event) → length (option_to_list o) ≤ 1
one_at_most None = omega arith
one_at_most (Some e) = omega arith

pub length-ordered : (events : List Event) (order : List ℕ) → length (ordered events order) ≤ length order
length-ordered events [] = omega arith
length-ordered events (i ∷ is) = omega (arith, length-append (option_to_list (slice_get events i)) (ordered events is), one_at_most (slice_get events i), length-ordered events is)

-- there are no more events in the order in which they ended than there are events
pub ordered_within : (s : Spanned) → length (ordered s.events (ends s)) ≤ length s.events
ordered_within s = omega (arith, length-ordered s.events (ends s), length-range_with_len 0 (length s.events))

pub ordered_events_run : CertifiedEventsRun → OrderedEventsRun
ordered_events_run law s order found well is h = law s.head (ordered s.events order) found (ordered-well s.head s.events order well) h

pub ordered_exactly_where_a_run_exists : CertifiedExactlyWhereARunExists → OrderedExactlyWhereARunExists
ordered_exactly_where_a_run_exists law s well few =
    let exactly = λ (order : List ℕ) (count : length order ≡ length s.events). law s.head (ordered s.events order) (ordered-well s.head s.events order well) (omega (arith, length-ordered s.events order, count, few)) in
    (λ h. (h.0, h.1, (exactly h.0 h.1.count).0 h.2), λ h. (h.0, h.1, (exactly h.0 h.1.count).1 h.2))

map_take : (k : ℕ) (xs : List Event) → map without_moments (take k xs) ≡ take k (map without_moments xs)
map_take zero [] = refl
map_take zero (x ∷ xs) = refl
map_take (suc k) [] = refl
map_take (suc k) (x ∷ xs) = ap (λ ys. without_moments x ∷ ys) (map_take k xs)

-- a run with all events begins with the first of them
pub begins : (head : Head) (events : List Event) (n : ℕ) → HasRunButMoments head events → RunBeginsWith head events n
begins head events n run = (run.0, run.1, map_take (n + 1) events ∙ (ap (take (n + 1)) run.2 ∙ sym (map_take (n + 1) (visible run.0))))

-- in the only order no run comes to what is denied there
pub denied_never_comes : DeniedEventsHaveNoRun → NoOtherOrder → (s : Spanned) (i : ℕ) → IsSpanned s → EachPrecedesNext s → IsDenied s.head (ordered s.events (ends s)) i → NeverComes s i
denied_never_comes law only s i spanned none denied order place is at run =
    let same : order ≡ ends s = only s order none is in
    let low : place < length (ends s) = slice_get_within (ends s) place i (ap (λ (o : List ℕ). slice_get o place) (sym same) ∙ at) in
    let below : place < length s.events = omega (arith, low, length-range_with_len 0 (length s.events)) in
    let own : slice_get (ends s) place ≡ Some place =
    slice_get-get_or (ends s) place 0 low ∙ ap Some (get_or-range_with_len 0 (length s.events) place 0 below ∙ (omega arith)) in
    let number : place ≡ i = some_same place i (sym own ∙ (ap (λ (o : List ℕ). slice_get o place) (sym same) ∙ at)) in
    let few : length (ordered s.events (ends s)) ≤ 2 ^ 32 - 1 = omega (arith, ordered_within s, spanned.count) in
    let here : RunComesTo s (ends s) i = subst (λ (o : List ℕ). RunComesTo s o i) same (subst (RunComesTo s order) number run) in
    (law s.head (ordered s.events (ends s)) i (ordered-well s.head s.events (ends s) spanned.well) few denied).0 here

-- where in no order a run comes to an event, no order has a run
pub never_comes_none_runs : (s : Spanned) (i : ℕ) → i < length s.events → NeverComes s i → HasOrderedRun s → ⊥
never_comes_none_runs s i within never run =
    let place = run.1.each i within in
    never run.0 place.0 run.1 (slice_get-get_or run.0 place.0 i place.1 ∙ ap Some place.2) (begins s.head (ordered s.events run.0) place.0 run.2)

-- of no edges all are deduced
pub none_are_deduced : (s : Spanned) (edges : List Edge) → edges ≡ [] → AreDeduced s edges
none_are_deduced s edges none = subst (AreDeduced s) (sym none) (λ edge h. absurd h)

pub none_of_earlier : (s : Spanned) (edges : List Edge) (i : ℕ) → edges ≡ [] → AreOfEarlier s edges i
none_of_earlier s edges i none = subst (λ (es : List Edge). AreOfEarlier s es i) (sym none) (λ edge h. absurd h)

-- what is denied in an order has no run in it
pub denied_has_no_run : DeniedEventsHaveNoRun → (s : Spanned) (order : List ℕ) (i : ℕ) → IsSpanned s → length order ≤ length s.events → IsDenied s.head (ordered s.events order) i → HasRunButMoments s.head (ordered s.events order) → ⊥
denied_has_no_run law s order i spanned few denied run =
    let events : List Event = ordered s.events order in
    let count : length events ≤ 2 ^ 32 - 1 = omega (arith, length-ordered s.events order, few, spanned.count) in
    (law s.head events i (ordered-well s.head s.events order spanned.well) count denied).0 (begins s.head events i run)
