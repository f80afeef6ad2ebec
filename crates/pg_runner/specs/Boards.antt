-- What a board is to a contract, and what it keeps true.
use Rattle.std.specs.Prelude.{◌≡◌, ℕ, List, length, map, Option, Some, is_some, if◌then◌else◌}
use Rattle.std.specs.Prelude.{slice_get}
use Rattle.pg_event.specs.declared.event.Event.{Event}
use Rattle.std.specs.declared.vec.Vec.{Vec}
use Rattle.std.specs.declared.alloc.Global.{Global}
use Rattle.pg_guest.specs.Held.{Held, seen}
use Rattle.pg_guest.specs.Runs.{ArePlaced}
use Rattle.pg_guest.specs.Transcripts.{shapes_of}
use Rattle.pg_guest.specs.Turn.{Processor}
use Rattle.pg_runner.specs.declared.counts.Counts.{Counts}
use Rattle.pg_runner.specs.Seats.{Seated, is_at, counts, greater}
use Rattle.pg_runner.specs.Runs.{RunsTo}
use Rattle.pg_guest.specs.Reading.{Scripted, IsScript}
use Rattle.pg_world.specs.Recording.{Recording, sealed_count, with_taken}

-- a record in the making, its processors in the order of their numbers, and the publisher of its
-- counts
pub record Desk : Type 0 where
  pub world : Recording
  pub processors : List Held
  pub publisher : Seated

-- the record as it would stand if none of its segments had been given out
abbrev pub untaken : Recording → Recording
untaken r = record r { taken = 0 }

-- turns of a script's processors lead to this record and these processors, of which each stands at
-- the place that is its number
pub record IsRunOf (script : Scripted) (r : Recording) (hs : List Held) : Type 0 where
  pub runs : RunsTo script (untaken r) (map seen hs)
  pub placed : ArePlaced r.head hs

-- what a board keeps: it is the run of some script
pub record IsBoard (r : Recording) (hs : List Held) : Type 0 where
  pub script : Scripted
  pub is : IsScript script
  pub run : IsRunOf script r hs

-- all instructions of p stand in its transcript
abbrev pub HasToldAll : ℕ → List Processor → Type 0
HasToldAll p xs = (x : Processor) → slice_get xs p ≡ Some x →
    shapes_of x.transcript ≡ x.instructions

-- ---- what a call leaves

-- the counts of a record
abbrev pub counts_of : Recording → Counts
counts_of r = counts (length r.events) (sealed_count r)

-- a publisher that has stored those of this record
abbrev pub stored_after : Seated → Recording → Seated
stored_after seat r = is_at seat.word (greater seat.last (counts_of r))

-- a board of which perhaps a segment was given out
abbrev pub after_take : Option (Vec Event Global) → Desk → Desk
after_take taken b = if is_some taken then record b { world = with_taken b.world } else b
