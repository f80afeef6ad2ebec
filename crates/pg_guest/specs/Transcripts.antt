-- What the receipts of a processor say: its own events of the record, with their numbers.
use Rattle.std.specs.Prelude.{◌≡◌, ◌≢◌, ℕ, ◌+◌, ◌==◌, if◌then◌else◌, List, [], ◌∷◌, take}
use Rattle.std.specs.Prelude.{Some, Option, None, slice_get, ◌<◌, length}
use Rattle.std.specs.List.{AllByRecursion, flat_map}
use Rattle.pg_event.specs.declared.event.Event.{Event}
use Rattle.pg_event.specs.Form.{processor_of}
use Rattle.pg_event.specs.Heads.{Head}
use Rattle.pg_guest.specs.declared.instruction.Instruction.{Instruction}
use Rattle.pg_guest.specs.Tasks.{shape, IsWellFormed}
use Rattle.pg_world.specs.declared.receipt.Receipt.{Receipt}
use Rattle.pg_world.specs.Recording.{Recording}
use Rattle.pg_guest.specs.declared.advance.Advance.{Advance}
use Rattle.pg_guest.specs.declared.advance.Advance.TheVariants.{Ended}
use Rattle.pg_guest.specs.Turn.{Processor, Turned, IsTurn, fresh}
use Rattle.pg_guest.specs.CoreRun.{IsCoreRun}

-- the receipts of the events of p, which are numbered from this number on
abbrev pub receipts_from : ℕ → ℕ → List Event → List Receipt
receipts_from p i [] = []
receipts_from p i (e ∷ es) =
    if processor_of e == p
    then record { moment = i; event = e } ∷ receipts_from p (i + 1) es
    else receipts_from p (i + 1) es

abbrev pub listed : Option Instruction → List Instruction
listed None = []
listed (Some instruction) = instruction ∷ []

-- the instructions that events carried out; an assist carries none out
abbrev pub shapes_of : List Receipt → List Instruction
shapes_of receipts = flat_map (λ receipt. listed (shape receipt.event)) receipts

-- the transcript is the record's events of p with their numbers, in order, and they carried out the
-- instructions up to its place
pub record IsTold (events : List Event) (p : ℕ) (x : Processor) : Type 0 where
  pub receipts : x.transcript ≡ receipts_from p 0 events
  pub shapes : shapes_of x.transcript ≡ take x.place x.instructions

-- each instruction of p is well formed
abbrev pub AreWellFormed : Head → ℕ → Processor → Type 0
AreWellFormed head p x = AllByRecursion (IsWellFormed head p) x.instructions

-- what is told of all processors stays told by a turn of p
pub record KeepsTold (p : ℕ) (old new : Recording) (x y : Processor) : Type 0 where
  pub head : new.head ≡ old.head
  pub instructions : y.instructions ≡ x.instructions
  pub own : IsTold old.events p x → IsTold new.events p y
  pub others : (q : ℕ) → q ≢ p → (z : Processor) → IsTold old.events q z →
      IsTold new.events q z

abbrev pub TurnsAreTold : Type 0
TurnsAreTold = (p : ℕ) (r : Recording) (x : Processor) (t : Turned) →
    AreWellFormed r.head p x → IsTurn p r x t → KeepsTold p r t.world x t.processor

-- new processors have nothing to tell
abbrev pub FreshAreTold : Type 0
FreshAreTold = (head : Head) (p : ℕ) (instructions : List Instruction) →
    IsTold [] p (fresh head p instructions)

-- of each processor, the instructions are well formed, and the transcript is told
pub record AreTold (r : Recording) (xs : List Processor) : Type 0 where
  pub well : (p : ℕ) (x : Processor) → slice_get xs p ≡ Some x → AreWellFormed r.head p x
  pub told : (p : ℕ) (x : Processor) → slice_get xs p ≡ Some x → IsTold r.events p x

abbrev pub CoreRunsAreTold : Type 0
CoreRunsAreTold = (r : Recording) (xs : List Processor) (ps : List ℕ) (answers : List Advance)
    (end : Recording) (ys : List Processor) →
    AreTold r xs → IsCoreRun r xs ps answers end ys → AreTold end ys

-- a processor that answers that it has ended has told all its instructions
abbrev pub EndedHaveToldAll : Type 0
EndedHaveToldAll = (p : ℕ) (r : Recording) (x : Processor) (t : Turned) →
    IsTold r.events p x → IsTurn p r x t → t.answer ≡ Ended →
    shapes_of t.processor.transcript ≡ t.processor.instructions

-- each event is of one of so many processors
abbrev pub AreOf : ℕ → List Event → Type 0
AreOf count events = AllByRecursion (λ e. processor_of e < count) events

-- the receipts of all processors, one after another
abbrev pub all_receipts : List Processor → List Receipt
all_receipts xs = flat_map (λ x. x.transcript) xs

-- transcripts that are told hold all events of their processors, and no other: they are as many
abbrev pub TranscriptsHoldAll : Type 0
TranscriptsHoldAll = (r : Recording) (xs : List Processor) →
    AreTold r xs → AreOf (length xs) r.events → length (all_receipts xs) ≡ length r.events
