-- What may come of an event of a record.
use Rattle.std.specs.Prelude.{◌≡◌, ℕ, ◌+◌, ◌<◌, ◌≤◌, true, false, List, length, Option, Some}
use Rattle.std.specs.Prelude.{None, slice_get, IfSome}
use Rattle.pg_event.specs.declared.event.Event.{Event}
use Rattle.pg_event.specs.Spelling.{Recorded}
use Rattle.pg_search.specs.Law.{names_moments}
use Rattle.std.specs.declared.alloc.Global.{Global}
use Rattle.std.specs.declared.vec.Vec.{Vec}
use Rattle.pg_outcomes.specs.declared.allowed.Allowed.{Allowed}
use Rattle.pg_outcomes.specs.Placed.{is_access}
use Rattle.pg_outcomes.specs.Allowing.{AreOutcomes}
use Rattle.pg_outcomes.specs.Asked.{HasRunBefore, MayCome}
use Rattle.pg_answers.specs.declared.answer.AssistOutcome.{AssistOutcome}
use Rattle.pg_answers.specs.declared.answer.AccessOutcomes.{AccessOutcomes}
use Rattle.pg_answers.specs.declared.answer.EventOutcomes.{EventOutcomes}
use Rattle.pg_answers.specs.declared.answer.EventOutcomes.TheVariants.{Access, Assist, NoAccess}
use Rattle.pg_answers.specs.Giving.{AreTold}

-- ---- the event that is asked about

abbrev pub IsAccessAt : List Event → ℕ → Type 0
IsAccessAt events n = (e : Event) × (slice_get events n ≡ Some e) × (is_access e ≡ true)

-- no event from this number up to, not with, another is an access
abbrev pub HasNoAccess : List Event → ℕ → ℕ → Type 0
HasNoAccess events from to = (k : ℕ) → from ≤ k → k < to →
    IfSome (slice_get events k) (λ e. is_access e ≡ false)

-- the last access below a number, if there is one
abbrev pub IsLastAccess : List Event → ℕ → Option ℕ → Type 0
IsLastAccess events to None = HasNoAccess events 0 to
IsLastAccess events to (Some n) =
    (n < to) × IsAccessAt events n × HasNoAccess events (n + 1) to

-- the event with a number that is given, if there is one; or else the last access
abbrev pub IsAskedEvent : List Event → Option ℕ → Option ℕ → Type 0
IsAskedEvent events None found = IsLastAccess events (length events) found
IsAskedEvent events (Some n) None = length events ≤ n
IsAskedEvent events (Some n) (Some found) = (found ≡ n) × (n < length events)

-- ---- its outcomes

-- of an access every outcome that it may have as event n, of another event nothing
abbrev pub AreAllowed : Recorded → ℕ → Event → Option (Vec Allowed Global) → Type 0
AreAllowed r n e None = is_access e ≡ false
AreAllowed r n e (Some xs) = (is_access e ≡ true) × AreOutcomes r n e xs.items

abbrev pub AreAllowedAt : Recorded → ℕ → Option (Vec Allowed Global) → Type 0
AreAllowedAt r n allowed = (e : Event) × (slice_get r.events n ≡ Some e) × AreAllowed r n e allowed

-- every outcome that access n may have, of which so many are told at most, with what gives each
pub record IsOutcomesOf (r : Recorded) (n most : ℕ) (x : AccessOutcomes) : Type 0 where
  pub number : x.number ≡ n
  pub event : slice_get r.events n ≡ Some x.event
  pub access : is_access x.event ≡ true
  pub run : HasRunBefore r n
  pub outcomes : AreOutcomes r n x.event x.found.items
  pub told : AreTold r x.event most x.found.items x.told.items
  pub bound : x.most ≡ most

-- whether assist n may come
pub record IsAssistOutcomeOf (r : Recorded) (n : ℕ) (x : AssistOutcome) : Type 0 where
  pub number : x.number ≡ n
  pub event : slice_get r.events n ≡ Some x.event
  pub assist : (is_access x.event ≡ false) × (names_moments x.event ≡ true)
  pub run : HasRunBefore r n
  pub may : MayCome r n x.event x.moments

-- event n is no access and no assist
abbrev pub IsNoAccess : Recorded → ℕ → Option ℕ → Type 0
IsNoAccess r n told = (told ≡ Some n)
    × ((e : Event) × (slice_get r.events n ≡ Some e) × (names_moments e ≡ false))

abbrev pub IsEventOutcomesOf : Recorded → ℕ → ℕ → EventOutcomes → Type 0
IsEventOutcomesOf r n most (Access x) = IsOutcomesOf r n most x
IsEventOutcomesOf r n most (Assist x) = IsAssistOutcomeOf r n x
IsEventOutcomesOf r n most (NoAccess told) = IsNoAccess r n told
