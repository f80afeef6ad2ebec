-- Records with no one order: which orders their events may have had.
use Rattle.std.specs.Prelude.{◌≡◌, ℕ, ◌-◌, ◌<◌, ◌⊎◌, List, length, Some, slice_get, slice_index}
use Rattle.std.specs.List.{Contains, flat_map}
use Rattle.std.specs.Option.{option_map, option_to_list}
use Rattle.pg_event.specs.declared.event.Event.{Event}
use Rattle.pg_event.specs.Heads.{Head}
use Rattle.pg_event.specs.Form.{processor_of}

-- events as they ended, one after another, and for each how many of those before it had not yet
-- ended when it began
pub record Spanned : Type 0 where
  pub head : Head
  pub events : List Event
  pub backs : List ℕ

-- how many events had ended when event i began
abbrev pub ended_before : Spanned → ℕ → ℕ
ended_before s i = i - slice_index s.backs i

-- both events are of the same processor
abbrev pub AreOfOneProcessor : List Event → ℕ → ℕ → Type 0
AreOfOneProcessor events j i =
    option_map processor_of (slice_get events j) ≡ option_map processor_of (slice_get events i)

-- event j comes before event i in every order: it had ended when event i began, or it is an earlier
-- one of the same processor
pub record MustPrecede (s : Spanned) (j i : ℕ) : Type 0 where
  pub within : i < length s.events
  pub why : (j < ended_before s i) ⊎ ((j < i) × AreOfOneProcessor s.events j i)

-- one number stands before another in a list
pub record StandsBefore (numbers : List ℕ) (j i : ℕ) : Type 0 where
  pub place : ℕ
  pub later : ℕ
  pub rises : place < later
  pub first : slice_get numbers place ≡ Some j
  pub second : slice_get numbers later ≡ Some i

-- an order of the events: the number of each, and none before one that must precede it
pub record IsOrder (s : Spanned) (order : List ℕ) : Type 0 where
  pub count : length order ≡ length s.events
  pub each : (i : ℕ) → i < length s.events → Contains order i
  pub keeps : (j i : ℕ) → MustPrecede s j i → StandsBefore order j i

-- the events in an order
abbrev pub ordered : List Event → List ℕ → List Event
ordered events order = flat_map (λ i. option_to_list (slice_get events i)) order
