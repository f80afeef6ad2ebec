-- What may come of an event, after the events before it.
use Rattle.std.specs.Prelude.{◌≡◌, ℕ, ◌<◌, true, false, List, Option, Some, None, slice_get, take}
use Rattle.pg_event.specs.declared.event.Event.{Event}
use Rattle.pg_event.specs.Spelling.{Recorded}
use Rattle.pg_search.specs.Law.{names_moments, AreWitness, AreFreshestOf}
use Rattle.pg_certify.specs.Certified.{HasRunButMoments, IsDenied}
use Rattle.pg_outcomes.specs.declared.asked.Found.{Found}
use Rattle.pg_outcomes.specs.declared.asked.Found.TheVariants.{Rejected, Outcomes, Assist, NoAccess}
use Rattle.pg_reach.specs.Placed.{is_access}
use Rattle.pg_outcomes.specs.Allowing.{AreOutcomes}

-- event d, before number n, is the least that no moments witness
abbrev pub IsRejectedBefore : Recorded → ℕ → ℕ → Type 0
IsRejectedBefore r n d = (d < n) × IsDenied r.head r.events d

-- some run of the machine has the events before number n, but for their moments
abbrev pub HasRunBefore : Recorded → ℕ → Type 0
HasRunBefore r n = HasRunButMoments r.head (take n r.events)

-- by these moments an event may come as event n, and none that it may come by are fresher; or it
-- may not come
abbrev pub MayCome : Recorded → ℕ → Event → Option (List ℕ) → Type 0
MayCome r n e None = (ws : List ℕ) → AreWitness r.head r.events n e ws → ⊥
MayCome r n e (Some ws) =
    AreWitness r.head r.events n e ws × AreFreshestOf r.head r.events n e ws

-- an access, with its outcomes; or an assist, which may come or not; or an event that reads nothing
abbrev pub IsFoundFor : Recorded → ℕ → Event → Found → Type 0
IsFoundFor r n e (Rejected d) = IsRejectedBefore r n d
IsFoundFor r n e (Outcomes found) =
    (is_access e ≡ true) × HasRunBefore r n × AreOutcomes r n e found.items
IsFoundFor r n e (Assist found) =
    (is_access e ≡ false) × (names_moments e ≡ true) × HasRunBefore r n × MayCome r n e found
IsFoundFor r n e NoAccess = (names_moments e ≡ false) × HasRunBefore r n

-- of event n
abbrev pub IsFoundOf : Recorded → ℕ → Found → Type 0
IsFoundOf r n found = (e : Event) × (slice_get r.events n ≡ Some e) × IsFoundFor r n e found
