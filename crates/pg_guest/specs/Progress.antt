-- How many turns an instruction takes.
use Rattle.std.specs.Prelude.{◌≡◌, ◌≢◌, ℕ, ◌+◌, ◌*◌, ◌<◌, ◌≤◌, ◌==◌, ◌⊎◌, Bool, true, false}
use Rattle.std.specs.Prelude.{if◌then◌else◌, List, [], ◌∷◌, length, filter, replicate, Option}
use Rattle.std.specs.Prelude.{Some, None, slice_get}
use Rattle.std.specs.List.{AllByRecursion}
use Rattle.pg_entry.specs.declared.Level.{Level}
use Rattle.pg_entry.specs.declared.Level.TheVariants.{Four, Three, Two, One}
use Rattle.pg_event.specs.declared.event.Want.TheVariants.{Present}
use Rattle.pg_event.specs.declared.version.Version.TheVariants as versions
use Rattle.pg_event.specs.Form.{access_kind}
use Rattle.pg_event.specs.Spelling.{IsHead}
use Rattle.pg_event.specs.Wants.{is_wanted}
use Rattle.pg_entry.specs.Kinds.{kind_of}
use Rattle.pg_guest.specs.declared.instruction.Instruction.{Instruction}
use Rattle.pg_guest.specs.declared.instruction.Instruction.TheVariants.{Write, Access, MovCr3}
use Rattle.pg_guest.specs.declared.instruction.Instruction.TheVariants.{Invlpg, Invpcid}
use Rattle.pg_guest.specs.declared.instruction.Instruction.TheVariants.{MovCr4Pge}
use Rattle.pg_shadow.specs.declared.entries.Found.{Found}
use Rattle.pg_shadow.specs.declared.entries.Found.TheVariants.{Hit, Partial, Miss}
use Rattle.pg_shadow.specs.Caches.{Caches}
use Rattle.pg_world.specs.declared.receipt.Receipt.{Receipt}
use Rattle.pg_world.specs.declared.walk.LevelRead.{LevelRead}
use Rattle.pg_world.specs.declared.walk.LevelRead.TheVariants as founds
use Rattle.pg_world.specs.declared.walk.Walk.{Walk}
use Rattle.pg_world.specs.Recording.{Recording}
use Rattle.pg_world.specs.Walks.{found_in}
use Rattle.pg_guest.specs.declared.advance.Advance.{Advance}
use Rattle.pg_guest.specs.declared.advance.Advance.TheVariants.{Read, Assisted, Done}
use Rattle.pg_guest.specs.declared.advance.Advance.TheVariants.{Ended, Stopped}
use Rattle.pg_guest.specs.Turn.{Processor, Turned, turned, begun, from_root, from_table, IsTurn}
use Rattle.pg_guest.specs.CoreRun.{IsCoreRun}
use Rattle.pg_guest.specs.Home.{HasSoundCaches}
use Rattle.pg_guest.specs.Laws.{IsQuiet}

-- an entry that is given to a walk is present and has no reserved bit
abbrev pub EntriesArePresent : Type 0
EntriesArePresent = (r : Recording) (p : ℕ) (walk : Walk) (value moment : ℕ) →
    found_in r p walk ≡ founds.Entry value moment →
    is_wanted Present (kind_of r.head.cfg walk.level value) ≡ true

-- how many levels a walk has read that has read this one
abbrev pub depth : Level → ℕ
depth Four = 1
depth Three = 2
depth Two = 3
depth One = 4

-- how far a walk under way has come
abbrev pub progress : Found → ℕ
progress (Hit frame shift rights global moments) = 4
progress (Partial level table rights moments) = depth level
progress Miss = 0

-- from one processor to another the walk has come further, and the instruction is the same
pub record GoesFurther (x y : Processor) : Type 0 where
  pub further : progress x.way < progress y.way
  pub most : progress y.way ≤ 4
  pub place : y.place ≡ x.place

-- a turn that only reads brings the walk of a processor at home further
abbrev pub ReadsGoFurther : Type 0
ReadsGoFurther = (p : ℕ) (r : Recording) (x : Processor) (level : Level) →
    HasSoundCaches r.head r.events p x → (turned p r x).answer ≡ Read level →
    GoesFurther x (turned p r x).processor

abbrev pub is_stopped : Advance → Bool
is_stopped (Read level) = false
is_stopped (Assisted receipt) = false
is_stopped (Done receipt) = false
is_stopped Ended = false
is_stopped (Stopped why) = true

-- ---- a measure of the next instruction

-- whether the read that comes next is no assist
abbrev pub ready : LevelRead → ℕ
ready (founds.Entry value moment) = 1
ready (founds.Fault receipt) = 1
ready (founds.Assisted receipt) = 0

-- how far an access has come whose walk stands here: two for each level that was read, as each
-- takes two turns at most, an assist and the read itself; and one more where the read that comes
-- next is no assist. At a page, which the next turn answers from, it is the most, 8
abbrev pub measure_from : ℕ → Recording → Caches → ℕ → ℕ → Found → ℕ
measure_from p r s flags la (Hit frame shift rights global moments) = 8
measure_from p r s flags la (Partial level table rights moments) = 2 * depth level
    + ready (found_in r p (from_table (access_kind flags) la level table rights moments))
measure_from p r s flags la Miss =
    ready (found_in r p (from_root s.control (access_kind flags) la))

-- how far p has come with its next instruction. A walk that has not begun has come to what is
-- cached for it; any other instruction is carried out by its next turn
abbrev pub measure_by : ℕ → Recording → Processor → Option Instruction → ℕ
measure_by p r x None = 8
measure_by p r x (Some (Write addr value)) = 8
measure_by p r x (Some (Access flags la)) = measure_from p r x.caches flags la
    (begun r.head x.caches la (access_kind flags) x.way)
measure_by p r x (Some (MovCr3 operand)) = 8
measure_by p r x (Some (Invlpg la)) = 8
measure_by p r x (Some (Invpcid kind pcid la)) = 8
measure_by p r x (Some (MovCr4Pge on)) = 8

abbrev pub measure : ℕ → Recording → Processor → ℕ
measure p r x = measure_by p r x (slice_get x.instructions x.place)

-- a turn carried the next instruction out
pub record CarriesNext (x : Processor) (t : Turned) : Type 0 where
  pub receipt : Receipt
  pub answer : t.answer ≡ Done receipt
  pub place : t.processor.place ≡ x.place + 1

-- or it brought it nearer
pub record ComesNearer (p : ℕ) (r : Recording) (x : Processor) (t : Turned) : Type 0 where
  pub place : t.processor.place ≡ x.place
  pub nearer : measure p r x < measure p t.world t.processor
  pub most : measure p t.world t.processor ≤ 8

-- each turn that is not stopped does one of them, where there is an instruction to carry out
abbrev pub TurnsComeNearer : Type 0
TurnsComeNearer = (p : ℕ) (r : Recording) (x : Processor) (t : Turned) →
    IsHead r.head → HasSoundCaches r.head r.events p x → IsTurn p r x t →
    x.place < length x.instructions → is_stopped t.answer ≡ false →
    CarriesNext x t ⊎ ComesNearer p r x t

-- in version 1 no turn records an assist
abbrev pub NoneAssistInVersionOne : Type 0
NoneAssistInVersionOne = (p : ℕ) (r : Recording) (x : Processor) (t : Turned)
    (receipt : Receipt) →
    r.head.version ≡ versions.One → IsTurn p r x t → t.answer ≢ Assisted receipt

-- ---- turns among others

-- how many turns are p's
abbrev pub turns_of : ℕ → List ℕ → ℕ
turns_of p ps = length (filter (λ q. q == p) ps)

-- what they answered
abbrev pub answers_of : ℕ → List ℕ → List Advance → List Advance
answers_of p [] answers = []
answers_of p (q ∷ ps) [] = []
answers_of p (q ∷ ps) (answer ∷ answers) =
    if q == p then answer ∷ answers_of p ps answers else answers_of p ps answers

-- none of them is a stop
abbrev pub NoneIsStopped : ℕ → List ℕ → List Advance → Type 0
NoneIsStopped p ps answers =
    AllByRecursion (λ answer. is_stopped answer ≡ false) (answers_of p ps answers)

-- if p had an instruction to carry out, it has carried it out
abbrev pub CarriesOut : ℕ → List Processor → List Processor → Type 0
CarriesOut p xs ys = (x y : Processor) → slice_get xs p ≡ Some x → slice_get ys p ≡ Some y →
    x.place < length x.instructions → x.place < y.place

-- in version 1 five turns carry an instruction out, whatever the others do between
abbrev pub FiveTurnsCarryOut : Type 0
FiveTurnsCarryOut = (r : Recording) (xs : List Processor) (ps : List ℕ) (answers : List Advance)
    (end : Recording) (ys : List Processor) (p : ℕ) →
    r.head.version ≡ versions.One → IsQuiet r xs → IsCoreRun r xs ps answers end ys →
    NoneIsStopped p ps answers → 5 ≤ turns_of p ps → CarriesOut p xs ys

-- in both versions nine turns do, where no other processor has a turn between
abbrev pub NineTurnsCarryOut : Type 0
NineTurnsCarryOut = (r : Recording) (xs : List Processor) (answers : List Advance)
    (end : Recording) (ys : List Processor) (p : ℕ) →
    IsHead r.head → IsQuiet r xs → IsCoreRun r xs (replicate 9 p) answers end ys →
    NoneIsStopped p (replicate 9 p) answers → CarriesOut p xs ys
