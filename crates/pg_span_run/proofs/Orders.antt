-- An order, by the places of its numbers.
use Rattle.std.proofs.Common.{◌≡◌, ℕ, ◌<◌, List, [], ◌∷◌, length, get_or, sym, subst, arith, inl, inr, Some, None}
use Rattle.std.specs.Prelude.{slice_get}
use Rattle.std.specs.List.{AllByRecursion}
use Rattle.std.proofs.lemmas.Bool.{cases_lt}
use Rattle.std.proofs.lemmas.Option.{get_or_from_slice_get}
use Rattle.pg_event.specs.declared.event.Event.{Event}
use Rattle.pg_event.specs.Heads.{Head}
use Rattle.pg_event.specs.Form.{broken_rule, processor_of}
use Rattle.pg_event.proofs.Events.{processor_within}
use Rattle.pg_span_run.specs.Orders.{Spanned, StandsBefore, IsOrder}
use Rattle.pg_span_run.specs.Places.{ArePlaces, KeepsSpans, KeepsPrograms}
use Rattle.pg_span_run.proofs.Places.{AreAll, stands_once, stands_below}

pub processors_within : (head : Head) (events : List Event) (n : ℕ) → n ≡ length head.processors → AllByRecursion (λ e. broken_rule head e ≡ None) events → AllByRecursion (λ e. processor_of e < n) events
processors_within head [] n count well = tt
processors_within head (e ∷ es) n count well = (subst (λ (k : ℕ). processor_of e < k) (sym count) (processor_within head e well.0), processors_within head es n count well.1)

pub are_all : (s : Spanned) (order : List ℕ) → IsOrder s order → AreAll order (length s.events)
are_all s order is = record { count = is.count; each = is.each }

-- the numbers of an order are those of events
pub order_within : (s : Spanned) (order : List ℕ) → IsOrder s order → (k i : ℕ) → slice_get order k ≡ Some i → i < length s.events
order_within s order is k i at = stands_below order (length s.events) (are_all s order is) k i at

-- each number below so many has a place
abbrev pub AllPlaced : List ℕ → Type 0
AllPlaced places = (i : ℕ) → i < length places → get_or places i 0 < length places

at_place : (order places : List ℕ) → ArePlaces order places → AllPlaced places → (i : ℕ) → i < length places → slice_get order (get_or places i 0) ≡ Some i
at_place order places are placed i lt = (are.each i lt).there (omega (arith, placed i lt, are.count))

pub order_by_places : (s : Spanned) (order places : List ℕ) → length order ≡ length s.events → length s.backs ≡ length s.events → ArePlaces order places → AllPlaced places → KeepsSpans s.backs places → KeepsPrograms s.events places → IsOrder s order
order_by_places s order places count backs are placed spans programs =
    let there : (i : ℕ) → i < length s.events → slice_get order (get_or places i 0) ≡ Some i = λ i lt. at_place order places are placed i (omega (arith, lt, count, are.count)) in
    record {
      count = count;
      each = λ i lt. (get_or places i 0, omega (arith, placed i (omega (arith, lt, count, are.count)), are.count), get_or_from_slice_get order (get_or places i 0) i i (there i lt));
      keeps = λ j i must.
          let before : j < i = elim must.why [ inl ended ↦ omega (arith, ended) | inr own ↦ own.0 ] in
          let rises : get_or places j 0 < get_or places i 0 = elim must.why [
            | inl ended ↦ spans j i (omega (arith, must.within, backs)) ended
            | inr own ↦ programs j i must.within own.0 own.1
          ] in
          record {
            place = get_or places j 0;
            later = get_or places i 0;
            rises = rises;
            first = there j (omega (arith, before, must.within));
            second = there i must.within;
          };
    }

pub all_placed : (s : Spanned) (order places : List ℕ) → ArePlaces order places → IsOrder s order → AllPlaced places
all_placed s order places are is i lt = elim (cases_lt (get_or places i 0) (length order)) [
  | inl low ↦ omega (arith, low, are.count)
  | inr high ↦ absurd ((are.each i lt).nowhere high (is.each i (omega (arith, lt, are.count, is.count))))
]

-- what stands before another has the lower place
rises_by : (s : Spanned) (order places : List ℕ) → ArePlaces order places → IsOrder s order → (j i : ℕ) → j < length places → i < length places → StandsBefore order j i → get_or places j 0 < get_or places i 0
rises_by s order places are is j i low lt before =
    let placed : AllPlaced places = all_placed s order places are is in
    let first : before.place ≡ get_or places j 0 = stands_once order (length s.events) (are_all s order is) before.place (get_or places j 0) j before.first (at_place order places are placed j low) in
    let second : before.later ≡ get_or places i 0 = stands_once order (length s.events) (are_all s order is) before.later (get_or places i 0) i before.second (at_place order places are placed i lt) in
    omega (arith, first, second, before.rises)

pub spans_by_order : (s : Spanned) (order places : List ℕ) → length s.backs ≡ length s.events → ArePlaces order places → IsOrder s order → KeepsSpans s.backs places
spans_by_order s order places backs are is j i lt ended =
    let within : i < length s.events = omega (arith, lt, backs) in
    rises_by s order places are is j i (omega (arith, ended, within, are.count, is.count)) (omega (arith, within, are.count, is.count)) (is.keeps j i (record { within = within; why = inl ended }))

pub programs_by_order : (s : Spanned) (order places : List ℕ) → ArePlaces order places → IsOrder s order → KeepsPrograms s.events places
programs_by_order s order places are is j i within before alike =
    rises_by s order places are is j i (omega (arith, before, within, are.count, is.count)) (omega (arith, within, are.count, is.count)) (is.keeps j i (record { within = within; why = inr (before, alike) }))
