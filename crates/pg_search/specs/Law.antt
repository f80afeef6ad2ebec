-- What it says of runs that no moments witness an event.
use Rattle.std.specs.Prelude.{◌≡◌, ℕ, ◌+◌, ◌^◌, ◌<◌, ◌≤◌, Bool, true, false, List, length, take}
use Rattle.std.specs.Prelude.{Some, None, slice_get}
use Rattle.pg_event.specs.declared.event.Event.{Event}
use Rattle.pg_event.specs.declared.event.Event.TheVariants.{Write, Access, Assist, MovCr3, Invlpg}
use Rattle.pg_event.specs.declared.event.Event.TheVariants.{Invpcid, MovCr4Pge}
use Rattle.pg_event.specs.Heads.{Head}
use Rattle.pg_event.specs.Witness.{failing_event}
use Rattle.pg_machine.specs.declared.step.Step.{Step}
use Rattle.pg_machine.specs.Machine.{IsRun, visible}
use Rattle.pg_run_of.specs.Converse.{AreSameButMoments}
use Rattle.pg_search.specs.Freshness.{is_as_fresh}

-- the event names moments: it is an access or an assist
abbrev pub names_moments : Event → Bool
names_moments (Write p addr value) = false
names_moments (Access p flags la outcome moments) = true
names_moments (Assist p flags la word moments) = true
names_moments (MovCr3 p operand) = false
names_moments (Invlpg p la) = false
names_moments (Invpcid p kind pcid la) = false
names_moments (MovCr4Pge p on) = false

-- the event with these moments in place of its own, if it names some
abbrev pub with_moments : List ℕ → Event → Event
with_moments ws (Write p addr value) = Write p addr value
with_moments ws (Access p flags la outcome moments) = Access p flags la outcome ws
with_moments ws (Assist p flags la word moments) = Assist p flags la word ws
with_moments ws (MovCr3 p operand) = MovCr3 p operand
with_moments ws (Invlpg p la) = Invlpg p la
with_moments ws (Invpcid p kind pcid la) = Invpcid p kind pcid la
with_moments ws (MovCr4Pge p on) = MovCr4Pge p on

-- one to four moments, each any number, with which an event is witnessed as event i
pub record AreWitness (head : Head) (events : List Event) (i : ℕ) (e : Event)
    (ws : List ℕ) : Type 0 where
  pub some : 1 ≤ length ws
  pub few : length ws ≤ 4
  pub good : failing_event head events i (with_moments ws e) ≡ None

-- event i is witnessed with these moments in place of its own
abbrev pub WitnessedBy : Head → List Event → ℕ → List ℕ → Type 0
WitnessedBy head events i ws =
    (e : Event) × (slice_get events i ≡ Some e) × AreWitness head events i e ws

-- event i is witnessed with some moments in place of its own
abbrev pub CanBeWitnessed : Head → List Event → ℕ → Type 0
CanBeWitnessed head events i = (ws : List ℕ) × WitnessedBy head events i ws

-- no moments that witness event i are fresher than these
abbrev pub AreFreshest : Head → List Event → ℕ → List ℕ → Type 0
AreFreshest head events i ws =
    (us : List ℕ) → WitnessedBy head events i us → is_as_fresh ws us ≡ true

-- no moments are fresher that witness, as event i, an event that need not be one of those
abbrev pub AreFreshestOf : Head → List Event → ℕ → Event → List ℕ → Type 0
AreFreshestOf head events i e ws =
    (us : List ℕ) → AreWitness head events i e us → is_as_fresh ws us ≡ true

-- a run of the machine begins with the events up to event i, but for their moments
abbrev pub RunBeginsWith : Head → List Event → ℕ → Type 0
RunBeginsWith head events i =
    (steps : List Step) × IsRun head steps
    × AreSameButMoments (take (i + 1) events) (take (i + 1) (visible steps))

-- where no moments witness an event, no run begins with the events up to it
abbrev pub UnwitnessedEventsHaveNoRun : Type 0
UnwitnessedEventsHaveNoRun =
    (head : Head) (events : List Event) (i : ℕ) → i < length events → i + 1 < 2 ^ 32 →
    (CanBeWitnessed head events i → ⊥) → RunBeginsWith head events i → ⊥
