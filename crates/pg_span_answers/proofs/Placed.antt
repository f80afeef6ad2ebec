-- The events in an order, one for each number.
use Rattle.std.proofs.Common.{◌≡◌, ℕ, suc, ◌+◌, ◌<◌, List, [], ◌∷◌, length, length-append, Some, refl, ap, ◌∙◌, arith}
use Rattle.std.specs.Prelude.{slice_get, option_to_list}
use Rattle.pg_event.specs.declared.event.Event.{Event}
use Rattle.pg_reach.proofs.Histories.{event_there}
use Rattle.pg_span_run.specs.Orders.{ordered}

-- there are as many of them
pub length_in_order : (events : List Event) (order : List ℕ) → ((k i : ℕ) → slice_get order k ≡ Some i → i < length events) → length (ordered events order) ≡ length order
length_in_order events [] h = refl
length_in_order events (i ∷ is) h =
    let there = event_there events i (h 0 i refl) in
    let one : 1 + length is ≡ suc (length is) = omega arith in
    length-append (option_to_list (slice_get events i)) (ordered events is)
    ∙ (ap (λ o. length (option_to_list o) + length (ordered events is)) there.1
    ∙ (ap (λ n. 1 + n) (length_in_order events is (λ k j at. h (suc k) j at)) ∙ one))
