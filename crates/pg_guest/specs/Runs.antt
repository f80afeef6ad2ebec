-- Runs of processors in memory.
use Rattle.std.specs.Prelude.{◌≡◌, ℕ, List, length, Some, slice_get}
use Rattle.pg_event.specs.Heads.{Head}
use Rattle.pg_event.specs.Witness.{Accepted}
use Rattle.pg_guest.specs.Reading.{Scripted}
use Rattle.pg_guest.specs.Tasks.{instructions_of}
use Rattle.pg_world.specs.Recording.{Recording}
use Rattle.pg_guest.specs.declared.advance.Advance.{Advance}
use Rattle.pg_guest.specs.declared.advance.Advance.TheVariants.{Stopped}
use Rattle.pg_guest.specs.declared.advance.Stop.{Stop}
use Rattle.pg_guest.specs.Turn.{Processor, fresh}
use Rattle.pg_shadow.specs.declared.entries.Found.TheVariants.{Miss}
use Rattle.pg_guest.specs.Home.{HasSoundCaches}
use Rattle.pg_guest.specs.Laws.{KeepsHome}
use Rattle.pg_guest.specs.Held.{Held, seen}
use Rattle.pg_guest.specs.Steps.{IsOfRun}

-- where the record is accepted and p is at home, both hold afterwards, and all others stay at home
abbrev pub StaysAtHome : ℕ → Recording → Recording → Processor → Processor → Type 0
StaysAtHome p old new before after =
    Accepted old.head old.events → HasSoundCaches old.head old.events p before →
    KeepsHome p old new after

-- a turn that was stopped left the record as it was, and of the processor all but the walk under
-- way, which was given up: the next turn begins the instruction again
abbrev pub StaysIfStopped : Recording → Recording → Processor → Processor → Advance → Type 0
StaysIfStopped old new before after answer =
    (why : Stop) → answer ≡ Stopped why → (new ≡ old) × (after ≡ record before { way = Miss })

-- each processor stands at the place that is its number, and is of the run
pub record IsPlaced (head : Head) (p : ℕ) (h : Held) : Type 0 where
  pub number : h.number ≡ p
  pub run : IsOfRun head p (seen h)

abbrev pub ArePlaced : Head → List Held → Type 0
ArePlaced head hs = (p : ℕ) (h : Held) → slice_get hs p ≡ Some h → IsPlaced head p h

-- processor p of a script before the first of its instructions
pub record IsNew (script : Scripted) (p : ℕ) (h : Held) : Type 0 where
  pub placed : IsPlaced script.head p h
  pub fresh_is : seen h ≡ fresh script.head p (instructions_of p script.tasks)

-- so are all of them
pub record AreNew (script : Scripted) (hs : List Held) : Type 0 where
  pub count : length hs ≡ length script.head.processors
  pub each : (p : ℕ) (h : Held) → slice_get hs p ≡ Some h → IsNew script p h
