-- What was given out of a record in the making, batch by batch.
use Rattle.std.specs.Prelude.{ℕ, ◌≡◌, ◌==◌, ◌*◌, true, List, [], ◌∷◌, ◌++◌, length, MatchBool}
use Rattle.std.specs.Prelude.{Option}
use mathlib.Core.List.{IsPrefix}
use Rattle.logbook.specs.Pages.{Cell, Step, View, Book, Named}
use Rattle.pg_event.specs.declared.event.Event.{Event}
use Rattle.pg_runner.specs.Boards.{Desk}
use Rattle.pg_runner.specs.declared.batch.Batch.{Batch}

abbrev pub batch : List Event → Batch
batch events = record { events = events }

-- the events of these batches, one batch after another
abbrev pub joined : List Batch → List Event
joined [] = []
joined (b ∷ bs) = b.events ++ joined bs

-- ---- the history

-- the first word is the length of the history. A history has two words, of which this one leaves
-- the second at 0
pub record IsCounted (cells : List Cell) (log : List Batch) : Type 0 where
  pub words : cells ≡ (length log, true) ∷ (0, true) ∷ []

abbrev pub head_of : Book → Named
head_of b = record { tracked = true; key = 0; book = b }

-- the batch was added to all that had been seen; or the history was longer, and its length found
abbrev pub Adds : Step Batch → View Batch ℕ → ℕ → View Batch ℕ → Type 0
Adds s v found w =
    MatchBool (found == s.old) (w.0 ≡ v.0 ++ s.ask ∷ []) (length w.0 ≡ found)

-- ---- beside a board

-- these batches are the segments that were given out of a board, from the first on
pub record AreGiven (b : Desk) (log : List Batch) : Type 0 where
  pub begins : IsPrefix (joined log) b.world.events
  pub count : length (joined log) ≡ b.world.taken * b.world.head.segment

-- a board, and what was given out of it, unless that is not known any more
pub record Sharing : Type 0 where
  pub board : Desk
  pub given : Option (List Batch)
