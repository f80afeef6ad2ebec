-- What is known of the control registers, and what it is of a run.
use Rattle.std.specs.Prelude.{◌≡◌, ℕ, ◌+◌, ◌<◌, ◌≤◌, ◌^◌, Bool, nat_lt, min}
use Rattle.std.specs.Prelude.{if◌then◌else◌, List, [], ◌∷◌, length, slice_get, slice_index_or}
use Rattle.std.specs.Option.{unwrap_or}
use Rattle.pg_entry.specs.declared.Cfg.{Cfg}
use Rattle.pg_event.specs.declared.version.Version.{Version}
use Rattle.pg_event.specs.declared.event.Event.{Event}
use Rattle.pg_event.specs.declared.control.Control.{Control}
use Rattle.pg_event.specs.Heads.{Head}
use Rattle.pg_event.specs.Meaning.{control_change_of, changes_some}
use Rattle.pg_event.specs.Values.{started, controlled, control_at}
use Rattle.pg_timeline.specs.declared.timeline.Stamp.{Stamp}
use Rattle.pg_timeline.specs.Timelines.{last_before}
use Rattle.pg_timeline.specs.Keyed.{AreBelow}

-- the settings of a run, the registers that its changes left, by processors, and the least moment
-- that a further change may have
pub record Registers : Type 0 where
  pub head : Head
  pub changes : List (List (Stamp Control))
  pub next : ℕ

-- the registers that the changes of a processor left
abbrev pub changes_of : List (List (Stamp Control)) → ℕ → List (Stamp Control)
changes_of changes p = slice_index_or changes p []

-- whether an event may change the control registers of its processor
abbrev pub is_change : Event → Bool
is_change e = changes_some (control_change_of e)

-- the registers of a processor at the start
abbrev pub start_in : Head → ℕ → Control
start_in head p = started head.cfg.m (slice_get head.processors p)

abbrev pub cfg_of : Registers → Cfg
cfg_of r = r.head.cfg

abbrev pub version_of : Registers → Version
version_of r = r.head.version

-- the least moment that a further event may have
abbrev pub next_moment : Registers → ℕ
next_moment r = r.next

abbrev pub processor_count : Registers → ℕ
processor_count r = length r.head.processors

-- the control registers of p at a moment
abbrev pub control_in : Registers → ℕ → ℕ → Control
control_in r p w = unwrap_or (last_before w (changes_of r.changes p)) (start_in r.head p)

-- one more event is known
pub record IsNoted (old new : Registers) (moment : ℕ) (event : Event) : Type 0 where
  pub head : new.head ≡ old.head
  pub next : next_moment new ≡ (if is_change event then moment + 1 else next_moment old)
  pub controls : (p w : ℕ) → let before = control_in old p w in
      control_in new p w
      ≡ (if nat_lt moment w then controlled (cfg_of old).m p before event else before)

-- the same registers are known
pub record IsSame (old new : Registers) : Type 0 where
  pub head : new.head ≡ old.head
  pub next : next_moment new ≡ next_moment old
  pub controls : (p w : ℕ) → control_in new p w ≡ control_in old p w

-- what is known of the moments up to one
pub record IsCutAt (old new : Registers) (moment : ℕ) : Type 0 where
  pub head : new.head ≡ old.head
  pub next : next_moment new ≡ min (next_moment old) moment
  pub controls : (p w : ℕ) → control_in new p w ≡ control_in old p (min w moment)

-- the registers are those of a run with these events
pub record StandsFor (r : Registers) (head : Head) (events : List Event) : Type 0 where
  pub settings : r.head ≡ head
  pub next : next_moment r ≤ length events
  pub controls : (p w : ℕ) → control_in r p w ≡ control_at head events p w

-- the tables lie within the physical addresses
abbrev pub AreLow : List (Stamp Control) → Type 0
AreLow [] = Unit {0}
AreLow (s ∷ ss) = (s.value.root < 2 ^ 52) × AreLow ss

-- physical addresses have 36 to 52 bits, each processor has its changes, tables lie within those
-- addresses, and moments are below the next
pub record AreKept (head : Head) (changes : List (List (Stamp Control))) (next : ℕ) :
    Type 0 where
  pub low : 36 ≤ head.cfg.m
  pub high : head.cfg.m ≤ 52
  pub count : length changes ≡ length head.processors
  pub ends : (p : ℕ) → AreBelow next (changes_of changes p)
  pub roots : (p : ℕ) → AreLow (changes_of changes p)
