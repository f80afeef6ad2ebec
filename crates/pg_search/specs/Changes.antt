-- A run of which those events are kept that change something, each in its place: these tell which
-- moments witness an event.
use Rattle.std.specs.Prelude.{◌≡◌, ℕ, ◌+◌, ◌≤◌, Bool, true, not, if◌then◌else◌}
use Rattle.std.specs.Prelude.{List, [], ◌∷◌, length, map, take, Some, slice_get}
use Rattle.pg_event.specs.declared.event.Event.{Event}
use Rattle.pg_event.specs.declared.event.Event.TheVariants.{Access}
use Rattle.pg_event.specs.declared.event.Outcome.TheVariants.{Page}
use Rattle.pg_event.specs.declared.keys.StructureKey.{StructureKey}
use Rattle.pg_event.specs.declared.keys.TranslationKey.{TranslationKey}
use Rattle.pg_event.specs.Heads.{Head}
use Rattle.pg_event.specs.Values.{mem_at, control_at}
use Rattle.pg_event.specs.Witness.{structure_survives, translation_survives}
use Rattle.pg_chain.specs.Standing.{changes_nothing}
use Rattle.pg_search.specs.declared.last.Last.{Last}
use Rattle.pg_search.specs.Placeholders.{with_placeholder}
use Rattle.pg_search.specs.Last.{NoneWitness, IsLastOf}
use Rattle.pg_search.specs.Lasts.{IsEndedBy}
use Rattle.pg_search.specs.Law.{AreWitness}

-- every event but an access that got its answer: that writes no word, loads no register and drops
-- nothing (Intel SDM, vol. 3, 4.10.4)
abbrev pub changes_something : Event → Bool
changes_something e = not (changes_nothing e)

-- an access that got its answer, which stands in the place of each that did
abbrev pub idle : Event
idle = Access 0 0 0 (Page 0) (0 ∷ [])

-- what is kept of an event: all but its moments, or only that it changes nothing
abbrev pub kept_of : Event → Event
kept_of e = if changes_something e then with_placeholder e else idle

-- the one is what is kept of the first events of the other
abbrev pub AreKeptOf : List Event → List Event → Type 0
AreKeptOf kept events = kept ≡ map kept_of (take (length kept) events)

-- moments witness an event among all events exactly where they do among what is kept of them
pub record WitnessedAmongKept : Type 0 where
  pub kept : (head : Head) (kept events : List Event) (i : ℕ) (e : Event) (ws : List ℕ) →
      AreKeptOf kept events → i ≤ length kept → AreWitness head events i e ws →
      AreWitness head kept i e ws
  pub all : (head : Head) (kept events : List Event) (i : ℕ) (e : Event) (ws : List ℕ) →
      AreKeptOf kept events → i ≤ length kept → AreWitness head kept i e ws →
      AreWitness head events i e ws

-- what took the last moments of an event away changes something
abbrev pub TakenByAChange : Type 0
TakenByAChange = (head : Head) (events : List Event) (i : ℕ) (e : Event) (last : Last)
    (taker : Event) → IsLastOf head events i e last → NoneWitness head events e i (i + 1) →
    slice_get events last.number ≡ Some taker → changes_something taker ≡ true

-- an event that took a translation away changes something
abbrev pub DroppedByAChange : Type 0
DroppedByAChange = (head : Head) (events : List Event) (p from to event : ℕ)
    (key : TranslationKey) (taker : Event) →
    IsEndedBy (λ w. translation_survives head events p key from w)
    from to (Some event) →
    slice_get events event ≡ Some taker → changes_something taker ≡ true

-- two runs have the same memory, control registers and drops up to a moment
pub record AreAlike (head : Head) (xs ys : List Event) (i : ℕ) : Type 0 where
  pub memory : (w a : ℕ) → w ≤ i → mem_at xs w a ≡ mem_at ys w a
  pub control : (p w : ℕ) → w ≤ i → control_at head xs p w ≡ control_at head ys p w
  pub structures : (p : ℕ) (s : StructureKey) (from to : ℕ) → from ≤ i → to ≤ i →
      structure_survives head xs p s from to
      ≡ structure_survives head ys p s from to
  pub translations : (p : ℕ) (t : TranslationKey) (from to : ℕ) → from ≤ i → to ≤ i →
      translation_survives head xs p t from to
      ≡ translation_survives head ys p t from to

-- no more than these says which moments witness an event
abbrev pub WitnessedAlike : Type 0
WitnessedAlike = (head : Head) (xs ys : List Event) (i : ℕ) (e : Event) (ws : List ℕ) →
    AreAlike head xs ys i → AreWitness head xs i e ws → AreWitness head ys i e ws
