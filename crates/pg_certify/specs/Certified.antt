-- Records whose moments nobody named: whether some run of the machine has their events, whatever
-- the moments (Intel SDM, vol. 3, 4.10).
use Rattle.std.specs.Prelude.{◌≡◌, ℕ, ◌-◌, ◌^◌, ◌<◌, ◌≤◌, ◌↔◌, true, List, length, take}
use Rattle.std.specs.Prelude.{Some, None, slice_get}
use Rattle.std.specs.List.{AllByRecursion}
use Rattle.pg_event.specs.declared.event.Event.{Event}
use Rattle.pg_event.specs.Heads.{Head}
use Rattle.pg_event.specs.Witness.{Accepted, failing_event}
use Rattle.pg_check.specs.Kept.{AreWellFormed}
use Rattle.pg_machine.specs.declared.step.Step.{Step}
use Rattle.pg_machine.specs.Machine.{IsRun, visible}
use Rattle.pg_run_of.specs.Converse.{without_moments, AreSameButMoments, HasMoments}
use Rattle.pg_search.specs.Law.{names_moments, AreWitness, CanBeWitnessed, RunBeginsWith}
use Rattle.pg_certify.specs.declared.certifier.Certified.{Certified}
use Rattle.pg_certify.specs.declared.certifier.Certified.TheVariants.{Yes, No}

-- it is this event but for the moments, and these witness it as event i
pub record IsFoundFor (head : Head) (events : List Event) (i : ℕ) (event found : Event) :
    Type 0 where
  pub same : without_moments found ≡ without_moments event
  pub fits : HasMoments found
  pub good : failing_event head events i found ≡ None

-- no one to four moments witness this event as event i
abbrev pub IsUnwitnessed : Head → List Event → ℕ → Event → Type 0
IsUnwitnessed head events i e = (ws : List ℕ) → AreWitness head events i e ws → ⊥

-- it is event i but for the moments, and these witness it
pub record IsFound (head : Head) (events : List Event) (i : ℕ) (found : Event) : Type 0 where
  pub event : Event
  pub there : slice_get events i ≡ Some event
  pub same : without_moments found ≡ without_moments event
  pub fits : HasMoments found
  pub good : failing_event head events i found ≡ None

-- the same events but for their moments, each with one to four moments that fit, where it has some,
-- and each witnessed by them
pub record IsCertified (head : Head) (events found : List Event) : Type 0 where
  pub same : AreSameButMoments found events
  pub fits : AllByRecursion HasMoments found
  pub good : Accepted head found

-- some moments make the events an accepted record
abbrev pub CanBeCertified : Head → List Event → Type 0
CanBeCertified head events = (found : List Event) × IsCertified head events found

-- event n is an access or an assist, which names moments
abbrev pub NamesMoments : List Event → ℕ → Type 0
NamesMoments events n = (e : Event) × (slice_get events n ≡ Some e) × (names_moments e ≡ true)

-- event n is the least that no moments witness
pub record IsDenied (head : Head) (events : List Event) (n : ℕ) : Type 0 where
  pub within : n < length events
  pub names : NamesMoments events n
  pub denied : CanBeWitnessed head events n → ⊥
  pub before : (k : ℕ) → k < n → CanBeWitnessed head events k

-- a yes has moments that certify the events, a no the least event that no moments witness
abbrev pub Certifies : Head → List Event → Certified → Type 0
Certifies head events (Yes found) = IsCertified head events found.items
Certifies head events (No n) = IsDenied head events n

-- some run of the machine has these events, but for their moments
abbrev pub HasRunButMoments : Head → List Event → Type 0
HasRunButMoments head events =
    (steps : List Step) × IsRun head steps × AreSameButMoments events (visible steps)

-- well-formed events that moments certify are those of a run
abbrev pub CertifiedEventsRun : Type 0
CertifiedEventsRun =
    (head : Head) (events found : List Event) → AreWellFormed head events →
    IsCertified head events found → HasRunButMoments head events

-- where no moments witness an event, no run begins with the events up to it, and some run has
-- those before it
abbrev pub DeniedEventsHaveNoRun : Type 0
DeniedEventsHaveNoRun =
    (head : Head) (events : List Event) (n : ℕ) → AreWellFormed head events →
    length events ≤ 2 ^ 32 - 1 → IsDenied head events n →
    (RunBeginsWith head events n → ⊥) × HasRunButMoments head (take n events)

-- so many well-formed events can be certified exactly where some run of the machine has them
abbrev pub CertifiedExactlyWhereARunExists : Type 0
CertifiedExactlyWhereARunExists =
    (head : Head) (events : List Event) → AreWellFormed head events →
    length events ≤ 2 ^ 32 - 1 → CanBeCertified head events ↔ HasRunButMoments head events
