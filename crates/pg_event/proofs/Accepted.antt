-- Events are accepted exactly where each is witnessed.
use Rattle.std.proofs.Common.{◌≡◌, ℕ, zero, suc, ◌+◌, ◌<◌, List, [], ◌∷◌, length, Option, Some, None, refl, ap, ◌∙◌, arith}
use Rattle.std.specs.Prelude.{slice_get, option_and_then}
use Rattle.pg_event.specs.declared.event.Event.{Event}
use Rattle.pg_event.specs.declared.event.Reason.{Reason}
use Rattle.pg_event.specs.Heads.{Head}
use Rattle.pg_event.specs.Laws.{AcceptedWhereEachIsWitnessed}
use Rattle.pg_event.specs.Witness.{failing_event, first_some, first_bad_from}

-- each event of a list is witnessed, which stands from this number on in the whole
abbrev AreWitnessed : Head → List Event → ℕ → List Event → Type 0
AreWitnessed head events from rest = (j : ℕ) → j < length rest → option_and_then (failing_event head events (from + j)) (slice_get rest j) ≡ None

-- neither this event nor a later one is bad
none_of : (i : ℕ) (first : Option Reason) (others : Option (ℕ × Reason)) → first_some i first others ≡ None → (first ≡ None) × (others ≡ None)
none_of i None others h = (refl, h)
none_of i (Some reason) others h = absurd cc

each_witnessed : (head : Head) (events : List Event) (from : ℕ) (rest : List Event) → first_bad_from head events from rest ≡ None → AreWitnessed head events from rest
each_witnessed head events from [] h j lt = refl
each_witnessed head events from (e ∷ rest) h zero lt =
    let here : from + 0 ≡ from = omega arith in
    ap (λ (i : ℕ). failing_event head events i e) here ∙ (none_of from (failing_event head events from e) (first_bad_from head events (from + 1) rest) h).0
each_witnessed head events from (e ∷ rest) h (suc j) lt =
    let next : from + suc j ≡ from + 1 + j = omega arith in
    let others = none_of from (failing_event head events from e) (first_bad_from head events (from + 1) rest) h in
    ap (λ (i : ℕ). option_and_then (failing_event head events i) (slice_get rest j)) next ∙ each_witnessed head events (from + 1) rest others.1 j (omega arith)

none_bad : (head : Head) (events : List Event) (from : ℕ) (rest : List Event) → AreWitnessed head events from rest → first_bad_from head events from rest ≡ None
none_bad head events from [] h = refl
none_bad head events from (e ∷ rest) h =
    let here : from ≡ from + 0 = omega arith in
    let first : failing_event head events from e ≡ None = ap (λ (i : ℕ). failing_event head events i e) here ∙ h 0 (omega arith) in
    let later : AreWitnessed head events (from + 1) rest = λ j lt.
    let next : from + 1 + j ≡ from + suc j = omega arith in
    ap (λ (i : ℕ). option_and_then (failing_event head events i) (slice_get rest j)) next ∙ h (suc j) (omega arith) in
    ap (λ (o : Option Reason). first_some from o (first_bad_from head events (from + 1) rest)) first ∙ none_bad head events (from + 1) rest later

pub accepted_where_each_is_witnessed : AcceptedWhereEachIsWitnessed
accepted_where_each_is_witnessed head events = (
  λ accepted i lt. let here : i ≡ 0 + i = omega arith in ap (λ (j : ℕ). option_and_then (failing_event head events j) (slice_get events i)) here ∙ each_witnessed head events 0 events accepted i lt,
  λ each. none_bad head events 0 events (λ j lt. let here : 0 + j ≡ j = omega arith in ap (λ (i : ℕ). option_and_then (failing_event head events i) (slice_get events j)) here ∙ each j lt),
)
