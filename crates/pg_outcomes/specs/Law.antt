-- What it says of runs that an outcome is allowed.
use Rattle.std.specs.Prelude.{◌≡◌, ℕ, ◌-◌, ◌^◌, ◌<◌, ◌≤◌, ◌↔◌, List, [], ◌∷◌, ◌++◌, length, take}
use Rattle.std.specs.Prelude.{true, None}
use Rattle.pg_event.specs.declared.event.Event.{Event}
use Rattle.pg_event.specs.declared.event.Outcome.{Outcome}
use Rattle.pg_event.specs.Heads.{Head}
use Rattle.pg_event.specs.Form.{broken_rule}
use Rattle.pg_event.specs.Spelling.{Recorded}
use Rattle.pg_check.specs.Kept.{AreWellFormed}
use Rattle.pg_certify.specs.Certified.{HasRunButMoments}
use Rattle.pg_reach.specs.Placed.{is_access, with_outcome}
use Rattle.pg_search.specs.Changes.{AreKeptOf}
use Rattle.pg_outcomes.specs.declared.allowed.Allowed.{Allowed}
use Rattle.pg_outcomes.specs.Allowing.{IsAllowed, AreOutcomes}

-- where some run of the machine has the events before number n, but for their moments, an outcome
-- of an access there is allowed exactly where some run has these events and then the access with
-- that outcome
abbrev pub AllowedExactlyWhereARunExists : Type 0
AllowedExactlyWhereARunExists =
    (head : Head) (events : List Event) (n : ℕ) (e : Event) (o : Outcome) →
    AreWellFormed head events → broken_rule head e ≡ None → is_access e ≡ true →
    n ≤ length events → n < 2 ^ 32 - 1 → HasRunButMoments head (take n events) →
    IsAllowed head events n e o
    ↔ HasRunButMoments head (take n events ++ with_outcome o e ∷ [])

-- what are the outcomes by what is kept of the events of a run are the outcomes by all of them
abbrev pub OutcomesAmongKept : Type 0
OutcomesAmongKept =
    (head : Head) (kept events : List Event) (n : ℕ) (e : Event) (xs : List Allowed) →
    AreKeptOf kept events → n ≤ length kept →
    AreOutcomes (record { head = head; events = kept }) n e xs →
    AreOutcomes (record { head = head; events = events }) n e xs

-- there is one list of the outcomes of an access, with moments for each
abbrev pub OutcomesAreOne : Type 0
OutcomesAreOne = (r : Recorded) (n : ℕ) (e : Event) (xs ys : List Allowed) →
    AreOutcomes r n e xs → AreOutcomes r n e ys → xs ≡ ys
