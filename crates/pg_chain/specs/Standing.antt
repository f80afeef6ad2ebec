-- What a past stands for.
use Rattle.std.specs.Prelude.{◌≡◌, ℕ, Bool, true, false, List, length}
use Rattle.pg_event.specs.declared.event.Event.{Event}
use Rattle.pg_event.specs.declared.event.Event.TheVariants.{Write, Access, Assist, MovCr3, Invlpg}
use Rattle.pg_event.specs.declared.event.Event.TheVariants.{Invpcid, MovCr4Pge}
use Rattle.pg_event.specs.declared.event.Outcome.TheVariants.{Page, Fault}
use Rattle.pg_event.specs.Heads.{Head}
use Rattle.pg_moment.specs.Versions as versions
use Rattle.pg_state.specs.Controls as controls
use Rattle.pg_inval.specs.Drops as drops
use Rattle.pg_chain.specs.declared.past.Past.{Past}

-- how many processors it knows
abbrev pub processor_count : Past → ℕ
processor_count past = controls.processor_count past.controls

-- the past stands for the run of these events under this header
pub record IsPast (past : Past) (head : Head) (events : List Event) : Type 0 where
  pub versions : versions.StandsFor past.versions events
  pub controls : controls.StandsFor past.controls head events
  pub drops : drops.StandsFor past.drops head events

-- this holds of each run that the past stands for
abbrev pub InEachRun : Past → (Head → List Event → Type 0) → Type 0
InEachRun past P = (head : Head) (events : List Event) → IsPast past head events → P head events

-- the past stands for a run whose next event has this number
pub record IsNext (past : Past) (moment : ℕ) : Type 0 where
  pub head : Head
  pub events : List Event
  pub stands : IsPast past head events
  pub count : moment ≡ length events

-- whether an event leaves memory, control registers and caches as they are: an access that got
-- its answer does
abbrev pub changes_nothing : Event → Bool
changes_nothing (Write p addr value) = false
changes_nothing (Access p flags la (Page page) moments) = true
changes_nothing (Access p flags la (Fault code) moments) = false
changes_nothing (Assist p flags la word moments) = false
changes_nothing (MovCr3 p operand) = false
changes_nothing (Invlpg p la) = false
changes_nothing (Invpcid p kind pcid la) = false
changes_nothing (MovCr4Pge p on) = false
