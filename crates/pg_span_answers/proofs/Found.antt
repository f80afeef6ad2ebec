-- Moments that were found for the events in an order.
use Rattle.std.proofs.Common.{◌≡◌, ◌<◌, ◌^◌, ℕ, List, [], ◌∷◌, ◌++◌, length, refl, arith, Option, Some, None}
use Rattle.std.specs.Prelude.{slice_get}
use Rattle.std.specs.List.{AllByRecursion}
use Rattle.std.specs.Option.{option_to_list}
use Rattle.pg_event.specs.declared.event.Event.{Event}
use Rattle.pg_event.specs.Spelling.{Recorded, FitsEvent, IsRecord, record_bytes}
use Rattle.pg_check.specs.Kept.{AreWellFormed}
use Rattle.pg_run_of.proofs.Whole.{accepted_events_run}
use Rattle.pg_certify.proofs.Named.{same_count, well_alike, found_record}
use Rattle.pg_report.proofs.Verdicts.{one}
use Rattle.pg_span_run.specs.Orders.{Spanned, IsOrder, ordered}
use Rattle.pg_span_run.specs.Spanned.{IsSpanned}
use Rattle.pg_span_run.proofs.Places.{AllByRecursion-at}
use Rattle.pg_span_run.specs.Spelling.{IsSpelled}
use Rattle.pg_span_verdict.proofs.Meaning.{length-ordered, ordered-well}
use Rattle.pg_span_answers.specs.Answers.{IsCertifiedIn, IsNamedInOrder}

pub found_few : (s : Spanned) (order : List ℕ) (found : List Event) → IsSpanned s → IsCertifiedIn s order found → length found < 2 ^ 32
found_few s order found spanned h = omega (arith, same_count found (ordered s.events order) h.certified.same, length-ordered s.events order, h.order_of.count, spanned.count)

pub found_well : (s : Spanned) (order : List ℕ) (found : List Event) → IsSpanned s → IsCertifiedIn s order found → AreWellFormed s.head found
found_well s order found spanned h = well_alike s.head found (ordered s.events order) h.certified.same (ordered-well s.head s.events order spanned.well)

fits_one : (events : List Event) (i : ℕ) (o : Option Event) → slice_get events i ≡ o → AllByRecursion FitsEvent events → AllByRecursion FitsEvent (option_to_list o)
fits_one events i None is fits = tt
fits_one events i (Some e) is fits = (AllByRecursion-at FitsEvent events i e fits is, tt)

fits_all : (xs ys : List Event) → AllByRecursion FitsEvent xs → AllByRecursion FitsEvent ys → AllByRecursion FitsEvent (xs ++ ys)
fits_all [] ys xs_fit ys_fit = ys_fit
fits_all (x ∷ xs) ys xs_fit ys_fit = (xs_fit.0, fits_all xs ys xs_fit.1 ys_fit)

ordered-fits : (events : List Event) (order : List ℕ) → AllByRecursion FitsEvent events → AllByRecursion FitsEvent (ordered events order)
ordered-fits events [] fits = tt
ordered-fits events (i ∷ is) fits = fits_all (option_to_list (slice_get events i)) (ordered events is) (fits_one events i (slice_get events i) refl fits) (ordered-fits events is fits)

ordered_record : (s : Spanned) (order : List ℕ) → IsOrder s order → IsSpelled s → IsRecord (record { head = s.head; events = ordered s.events order })
ordered_record s order is spelled = record {
  head = spelled.spanned.head;
  count = omega (arith, length-ordered s.events order, is.count, spelled.spanned.count);
  fits = ordered-fits s.events order spelled.fits;
  well = ordered-well s.head s.events order spelled.spanned.well;
}

-- the record that is written of a yes
pub named_in_order : (s : Spanned) (order : List ℕ) (found : List Event) → IsSpanned s → IsCertifiedIn s order found → IsNamedInOrder s (record { head = s.head; events = found })
named_in_order s order found spanned h =
    let named : Recorded = record { head = s.head; events = found } in
    let in_order : Recorded = record { head = s.head; events = ordered s.events order } in
    record {
      order = order;
      order_of = h.order_of;
      head = refl;
      certified = h.certified;
      run = accepted_events_run s.head found (found_well s order found spanned h) h.certified.good;
      one = λ spelled all. one (record_bytes named) named (found_record in_order found (ordered_record s order h.order_of spelled) h.certified, refl, all);
    }
