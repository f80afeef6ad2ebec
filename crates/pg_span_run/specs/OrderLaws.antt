-- Laws of orders.
use Rattle.std.specs.Prelude.{◌≡◌, ℕ, ◌+◌, ◌<◌, ◌↔◌, List, length, true, Some, slice_get}
use Rattle.std.specs.List.{range_with_len}
use Rattle.pg_event.specs.declared.event.Event.{Event}
use Rattle.pg_span_run.specs.Orders.{Spanned, MustPrecede, IsOrder}
use Rattle.pg_span_run.specs.Spans.{precedes, span_of}

-- the numbers of the events as they ended
abbrev pub ends : Spanned → List ℕ
ends s = range_with_len 0 (length s.events)

-- events may have had the order in which they ended
abbrev pub EndsAreAnOrder : Type 0
EndsAreAnOrder = (s : Spanned) → IsOrder s (ends s)

-- each event comes before the next in every order: it had ended when the next began, or both are of
-- one processor
abbrev pub EachPrecedesNext : Spanned → Type 0
EachPrecedesNext s = (i : ℕ) → i + 1 < length s.events → MustPrecede s i (i + 1)

-- then they have had no other
abbrev pub NoOtherOrder : Type 0
NoOtherOrder =
    (s : Spanned) (order : List ℕ) → EachPrecedesNext s → IsOrder s order → order ≡ ends s

-- one event comes before another by their spans just where it must in every order
abbrev pub PrecedesByMust : Type 0
PrecedesByMust = (s : Spanned) (j i : ℕ) (first second : Event) →
    slice_get s.events j ≡ Some first → slice_get s.events i ≡ Some second →
    (precedes (span_of s j first) (span_of s i second) ≡ true) ↔ MustPrecede s j i
