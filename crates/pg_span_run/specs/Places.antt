-- Where numbers stand in a list, and what keeps them in order there.
use Rattle.std.specs.Prelude.{◌≡◌, ℕ, ◌-◌, ◌<◌, ◌≤◌, ◌↔◌, List, length, Some, slice_get}
use Rattle.std.specs.Prelude.{slice_index}
use Rattle.std.specs.List.{Contains}
use Rattle.pg_event.specs.declared.event.Event.{Event}
use Rattle.pg_span_run.specs.Orders.{AreOfOneProcessor}

-- the place of a number in a list, where it has one: else as many as the list has
pub record IsPlace (numbers : List ℕ) (i place : ℕ) : Type 0 where
  pub there : place < length numbers → slice_get numbers place ≡ Some i
  pub nowhere : length numbers ≤ place → Contains numbers i → ⊥

-- those of the first so many numbers
pub record ArePlaces (numbers places : List ℕ) : Type 0 where
  pub count : length places ≡ length numbers
  pub each : (i : ℕ) → i < length places → IsPlace numbers i (slice_index places i)

-- the first so many of the numbers are below it, and it is the least such bound
abbrev pub IsBoundOf : (ℕ → Type 0) → List ℕ → ℕ → Type 0
IsBoundOf chosen places bound =
    (v : ℕ) → (bound ≤ v) ↔ ((j : ℕ) → chosen j → slice_index places j < v)

-- each number stands after all that had ended before it began
abbrev pub KeepsSpans : List ℕ → List ℕ → Type 0
KeepsSpans backs places = (j i : ℕ) → i < length backs → j < i - slice_index backs i →
    slice_index places j < slice_index places i

-- and after the earlier ones of its processor
abbrev pub KeepsPrograms : List Event → List ℕ → Type 0
KeepsPrograms events places = (j i : ℕ) → i < length events → j < i →
    AreOfOneProcessor events j i → slice_index places j < slice_index places i
