-- Who wrote each word, by the numbers behind the writers.
use Rattle.std.specs.Prelude.{◌≡◌, ℕ, zero, suc, ◌+◌, ◌≤◌, ◌&&◌, nat_lt, if◌then◌else◌, List}
use Rattle.std.specs.Prelude.{Option, Some, None, IfSome}
use Rattle.pg_event.specs.declared.event.Event.{Event}
use Rattle.pg_timeline.specs.Keyed.{Keyed}
use Rattle.pg_moment.specs.Versions.{next_moment, value_at}
use Rattle.pg_search.specs.Writers.{writes, IsWriter}

-- the event before a number, if there is one
abbrev pub event_before : ℕ → Option ℕ
event_before zero = None
event_before (suc n) = Some n

-- at each moment the value of each word is the number behind the event that wrote it
abbrev pub AreWriters : List Event → Keyed ℕ ℕ → Type 0
AreWriters events v = (a w : ℕ) → IsWriter events a w (event_before (value_at v w a))

-- what is known of writers, if anything is, is known of these events
abbrev pub AreKnown : List Event → Option (List Event) → Type 0
AreKnown events known = IfSome known (λ all. all ≡ events)

-- the event with this number is known, if it writes a word
pub record IsNotedWriter (old new : Keyed ℕ ℕ) (number : ℕ) (e : Event) : Type 0 where
  pub next : next_moment new ≤ number + 1
  pub values : (w a : ℕ) → value_at new w a
      ≡ (if nat_lt number w && writes a e then number + 1 else value_at old w a)
