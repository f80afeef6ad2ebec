-- No run of recorded processors is refused.
use Rattle.std.specs.Prelude.{◌≡◌, ◌≢◌, ℕ, ◌⊎◌, List, [], ◌∷◌, ◌++◌, Some, slice_get, slice_set}
use Rattle.pg_event.specs.declared.event.Event.{Event}
use Rattle.pg_event.specs.Form.{processor_of}
use Rattle.pg_event.specs.Heads.{Head}
use Rattle.pg_event.specs.Witness.{Accepted}
use Rattle.pg_guest.specs.declared.instruction.Instruction.{Instruction}
use Rattle.pg_world.specs.Recording.{Recording}
use Rattle.pg_guest.specs.declared.advance.Advance.{Advance}
use Rattle.pg_guest.specs.Turn.{Processor, Turned, IsTurn, fresh}
use Rattle.pg_guest.specs.CoreRun.{unwritten, IsCoreRun}
use Rattle.pg_guest.specs.Home.{HasSoundCaches}

-- nothing was recorded, or one event of p
abbrev pub GrowsByOne : ℕ → List Event → List Event → Type 0
GrowsByOne p events more =
    (more ≡ events)
    ⊎ ((e : Event) × (processor_of e ≡ p) × (more ≡ events ++ e ∷ []))

-- the record so far is accepted, and each processor is at home
pub record IsQuiet (r : Recording) (xs : List Processor) : Type 0 where
  pub accepted : Accepted r.head r.events
  pub at_home : (p : ℕ) (x : Processor) → slice_get xs p ≡ Some x →
      HasSoundCaches r.head r.events p x

-- each processor but p that is at home stays so
abbrev pub KeepsOthers : ℕ → Recording → Recording → Type 0
KeepsOthers p old new =
    (q : ℕ) → q ≢ p → (x : Processor) → HasSoundCaches old.head old.events q x →
    HasSoundCaches new.head new.events q x

-- from one record to another, one event of p is added at most, what there is is accepted, p is at
-- home as it is now, and the others stay at home
pub record KeepsHome (p : ℕ) (old new : Recording) (x : Processor) : Type 0 where
  pub head : new.head ≡ old.head
  pub grows : GrowsByOne p old.events new.events
  pub accepted : Accepted new.head new.events
  pub own : HasSoundCaches new.head new.events p x
  pub others : KeepsOthers p old new

-- a turn keeps the record accepted and all processors at home, also where it is stopped
abbrev pub TurnsKeepHome : Type 0
TurnsKeepHome = (p : ℕ) (r : Recording) (x : Processor) (t : Turned) →
    Accepted r.head r.events → HasSoundCaches r.head r.events p x → IsTurn p r x t →
    KeepsHome p r t.world t.processor

-- an event of another processor leaves a processor at home, whether it is witnessed or not
abbrev pub OthersStayAtHome : Type 0
OthersStayAtHome = (head : Head) (events : List Event) (e : Event) (p : ℕ) (x : Processor) →
    processor_of e ≢ p → HasSoundCaches head events p x → HasSoundCaches head (events ++ e ∷ []) p x

-- new processors are at home before the first event
abbrev pub FreshAreAtHome : Type 0
FreshAreAtHome = (head : Head) (p : ℕ) (instructions : List Instruction) →
    HasSoundCaches head [] p (fresh head p instructions)

-- a turn of one of the processors keeps all quiet
abbrev pub TurnsKeepQuiet : Type 0
TurnsKeepQuiet = (r : Recording) (xs : List Processor) (p : ℕ) (x : Processor) (t : Turned) →
    IsQuiet r xs → slice_get xs p ≡ Some x → IsTurn p r x t →
    IsQuiet t.world (slice_set xs p t.processor)

-- every core run keeps all quiet
abbrev pub CoreRunsKeepQuiet : Type 0
CoreRunsKeepQuiet = (r : Recording) (xs : List Processor) (ps : List ℕ) (answers : List Advance)
    (end : Recording) (ys : List Processor) →
    IsQuiet r xs → IsCoreRun r xs ps answers end ys → IsQuiet end ys

-- each processor is as it is before its first instruction
abbrev pub AreFresh : Head → List Processor → Type 0
AreFresh head xs = (p : ℕ) (x : Processor) → slice_get xs p ≡ Some x →
    (instructions : List Instruction) × (x ≡ fresh head p instructions)

-- the record of every core run of new processors is accepted
abbrev pub CoreRunsAreAccepted : Type 0
CoreRunsAreAccepted = (head : Head) (xs : List Processor) (ps : List ℕ) (answers : List Advance)
    (end : Recording) (ys : List Processor) →
    AreFresh head xs → IsCoreRun (unwritten head) xs ps answers end ys →
    Accepted end.head end.events

-- a turn more is a core run of one turn more
abbrev pub CoreRunsGoOn : Type 0
CoreRunsGoOn = (r : Recording) (xs : List Processor) (ps : List ℕ) (answers : List Advance)
    (end : Recording) (ys : List Processor) (p : ℕ) (y : Processor) (t : Turned) →
    IsCoreRun r xs ps answers end ys → slice_get ys p ≡ Some y → IsTurn p end y t →
    IsCoreRun r xs (ps ++ p ∷ []) (answers ++ t.answer ∷ []) t.world (slice_set ys p t.processor)
