-- What a progress and its seats are to a contract.
use Rattle.std.specs.Prelude.{ℕ, ◌≤◌, max}
use Rattle.atomic_table.specs.Seated.{TableId}
use Rattle.pg_runner.specs.declared.counts.Counts.{Counts}

-- which word it is; a progress is seen as this
abbrev pub WordId : Type 0
WordId = TableId

-- a publisher or a reader is seen as the word that it is of, and the pair that it last stored or
-- read
pub record Seated : Type 0 where
  pub word : WordId
  pub last : Counts

abbrev pub is_at : WordId → Counts → Seated
is_at word last = record { word = word; last = last }

abbrev pub counts : ℕ → ℕ → Counts
counts events segments = record { events = events; segments = segments }

-- no more segments than events
abbrev pub IsPair : Counts → Type 0
IsPair c = c.segments ≤ c.events

-- neither number of the second is below that of the first
abbrev pub IsNotBelow : Counts → Counts → Type 0
IsNotBelow c d = (c.events ≤ d.events) × (c.segments ≤ d.segments)

-- number by number the greater
abbrev pub greater : Counts → Counts → Counts
greater c d = counts (max c.events d.events) (max c.segments d.segments)
