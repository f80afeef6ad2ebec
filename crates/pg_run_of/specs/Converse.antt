-- The converse: the events of a run are an accepted record's, but for the moments.
use Rattle.std.specs.Prelude.{◌≡◌, ◌-◌, ◌<◌, ◌≤◌, ◌^◌, List, [], length, map, None}
use Rattle.std.specs.List.{AllByRecursion}
use Rattle.pg_event.specs.declared.event.Event.{Event}
use Rattle.pg_event.specs.declared.event.Event.TheVariants.{Write, Access, Assist, MovCr3, Invlpg}
use Rattle.pg_event.specs.declared.event.Event.TheVariants.{Invpcid, MovCr4Pge}
use Rattle.pg_event.specs.Heads.{Head}
use Rattle.pg_event.specs.Form.{broken_rule}
use Rattle.pg_event.specs.Witness.{Accepted}
use Rattle.pg_event.specs.Spelling.{AreMoments, FitsOutcome, FitsEvent, IsHead, IsRecord}
use Rattle.pg_machine.specs.declared.step.Step.{Step}
use Rattle.pg_machine.specs.Machine.{IsRun, visible}

-- the event, whatever its moments are
abbrev pub without_moments : Event → Event
without_moments (Write p addr value) = Write p addr value
without_moments (Access p flags la outcome moments) = Access p flags la outcome []
without_moments (Assist p flags la word moments) = Assist p flags la word []
without_moments (MovCr3 p operand) = MovCr3 p operand
without_moments (Invlpg p la) = Invlpg p la
without_moments (Invpcid p kind pcid la) = Invpcid p kind pcid la
without_moments (MovCr4Pge p on) = MovCr4Pge p on

-- the same events in the same order, up to the moments of accesses and assists
abbrev pub AreSameButMoments : List Event → List Event → Type 0
AreSameButMoments xs ys = map without_moments xs ≡ map without_moments ys

-- one to four moments, each within its field, where the event has some
abbrev pub HasMoments : Event → Type 0
HasMoments (Write p addr value) = Unit {0}
HasMoments (Access p flags la outcome moments) = AreMoments moments
HasMoments (Assist p flags la word moments) = AreMoments moments
HasMoments (MovCr3 p operand) = Unit {0}
HasMoments (Invlpg p la) = Unit {0}
HasMoments (Invpcid p kind pcid la) = Unit {0}
HasMoments (MovCr4Pge p on) = Unit {0}

-- for each run of so few events there are moments with which they are well formed and witnessed
abbrev pub RunsAreAccepted : Type 0
RunsAreAccepted =
    (head : Head) (steps : List Step) → IsRun head steps → length (visible steps) ≤ 2 ^ 32 - 1 →
    (events : List Event) × AreSameButMoments events (visible steps)
    × AllByRecursion (λ e. broken_rule head e ≡ None) events × AllByRecursion HasMoments events
    × Accepted head events

-- fields but moments are within their widths
abbrev pub FitsButMoments : Event → Type 0
FitsButMoments (Write p addr value) = FitsEvent (Write p addr value)
FitsButMoments (Access p flags la outcome moments) =
    (flags < 2 ^ 8) × (la < 2 ^ 64) × FitsOutcome outcome
FitsButMoments (Assist p flags la word moments) =
    (flags < 2 ^ 8) × (la < 2 ^ 64) × (word < 2 ^ 64)
FitsButMoments (MovCr3 p operand) = FitsEvent (MovCr3 p operand)
FitsButMoments (Invlpg p la) = FitsEvent (Invlpg p la)
FitsButMoments (Invpcid p kind pcid la) = FitsEvent (Invpcid p kind pcid la)
FitsButMoments (MovCr4Pge p on) = FitsEvent (MovCr4Pge p on)

-- a run whose fields fit is, but for the moments, an accepted record
abbrev pub RunsAreRecords : Type 0
RunsAreRecords =
    (head : Head) (steps : List Step) → IsHead head → IsRun head steps →
    AllByRecursion FitsButMoments (visible steps) → length (visible steps) ≤ 2 ^ 32 - 1 →
    (events : List Event) × AreSameButMoments events (visible steps)
    × IsRecord (record { head = head; events = events }) × Accepted head events
