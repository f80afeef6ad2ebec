-- What is known of memory, and what it is of a run.
use Rattle.std.specs.Prelude.{◌≡◌, ℕ, ◌+◌, ◌≤◌, ◌&&◌, ◌==◌, nat_lt, nat_eq, min, if◌then◌else◌}
use Rattle.std.specs.Prelude.{List, length}
use Rattle.std.specs.Option.{unwrap_or}
use Rattle.pg_event.specs.declared.event.Event.{Event}
use Rattle.pg_event.specs.Values.{written, mem_at}
use Rattle.pg_timeline.specs.Timelines.{last_before}
use Rattle.pg_timeline.specs.Keyed as keyed
use Rattle.pg_timeline.specs.Keyed.{Keyed, stamps_at}

-- the least moment that a further event may have
abbrev pub next_moment : Keyed ℕ ℕ → ℕ
next_moment v = keyed.next_moment v

-- the value at an address at a moment: what the last event below it left there, else 0
abbrev pub value_at : Keyed ℕ ℕ → ℕ → ℕ → ℕ
value_at v w a = unwrap_or (last_before w (stamps_at nat_eq v a)) 0

-- one more value is known
pub record IsNoted (old new : Keyed ℕ ℕ) (moment addr value : ℕ) : Type 0 where
  pub next : next_moment new ≡ moment + 1
  pub values : (w a : ℕ) → value_at new w a
      ≡ (if nat_lt moment w && addr == a then value else value_at old w a)

-- the same values are known
pub record IsSame (old new : Keyed ℕ ℕ) : Type 0 where
  pub next : next_moment new ≡ next_moment old
  pub values : (w a : ℕ) → value_at new w a ≡ value_at old w a

-- what is known of the moments up to one
pub record IsCutAt (old new : Keyed ℕ ℕ) (moment : ℕ) : Type 0 where
  pub next : next_moment new ≡ min (next_moment old) moment
  pub values : (w a : ℕ) → value_at new w a ≡ value_at old (min w moment) a

-- memory is that of a run with these events
pub record StandsFor (v : Keyed ℕ ℕ) (events : List Event) : Type 0 where
  pub next : next_moment v ≤ length events
  pub values : (w a : ℕ) → value_at v w a ≡ mem_at events w a

-- an event after these leaves a value at an address, and every other value as it is
pub record Leaves (events : List Event) (e : Event) (addr value : ℕ) : Type 0 where
  pub values : (a : ℕ) → let before = mem_at events (length events) a in
      written a before e ≡ (if addr == a then value else before)
