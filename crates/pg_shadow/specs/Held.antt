-- What a shadow is seen as.
use Rattle.std.specs.Prelude.{◌≡◌, ℕ, None, nat_eq, ◌==◌, ◌&&◌, if◌then◌else◌, List}
use Rattle.std.specs.Map.{lookup}
use Rattle.std.specs.Option.{unwrap_or}
use Rattle.pg_entry.specs.declared.Level.{Level}
use Rattle.pg_entry.specs.declared.Level.TheVariants.{Three, Two, One}
use Rattle.pg_event.specs.declared.control.Control.{Control}
use Rattle.pg_event.specs.declared.invalidation.Invalidation.{Invalidation}
use Rattle.pg_event.specs.Invalidation.{level_shift}
use Rattle.pg_shadow.specs.declared.slot.Slot.{Slot}
use Rattle.pg_shadow.specs.declared.slot.KeptEntry.{KeptEntry}
use Rattle.pg_shadow.specs.Caches.{Caches}
use Rattle.pg_shadow.specs.Slots.{with_kept}
use Rattle.pg_shadow.specs.Left.{left_own, global_goes}
use Rattle.pg_shadow.specs.Pages.{Sheet}
use Rattle.pg_shadow.specs.Spaces.{nothing, slot_in, leaf_in}

pub record Held : Type 0 where
  pub width : ℕ
  pub control : Control
  pub own : List (ℕ × (List Sheet))
  pub globals : List Sheet

-- what is kept under a PCID
abbrev pub space_of : List (ℕ × (List Sheet)) → ℕ → List Sheet
space_of own pcid = unwrap_or (lookup (nat_eq pcid) own) nothing

-- what a shadow caches
unfoldable pub seen : Held → Caches
seen h = record {
  width = h.width;
  control = h.control;
  tables = λ k. (slot_in (space_of h.own k.pcid) k.level k.prefix).structure;
  leaves = λ k. leaf_in (if k.global then h.globals else space_of h.own k.pcid) k.shift k.number;
}

-- the level whose entries map pages of 2 ^ shift bytes
abbrev pub level_of : ℕ → Level
level_of shift = if shift == 30 then Three else if shift == 21 then Two else One

-- under one PCID one slot has an entry more, and the others are as they were
pub record KeepsOwn (old new : List (ℕ × (List Sheet))) (pcid : ℕ) (level : Level) (number : ℕ)
    (kept : KeptEntry) : Type 0 where
  pub at : (q : ℕ) (l : Level) (n : ℕ) → let before = slot_in (space_of old q) l n in
      slot_in (space_of new q) l n
      ≡ (if pcid == q && level_shift level == level_shift l && number == n
      then with_kept kept before else before)

-- each slot under each PCID is as it was
pub record IsSameOwn (old new : List (ℕ × (List Sheet))) : Type 0 where
  pub at : (q : ℕ) (l : Level) (n : ℕ) →
      slot_in (space_of new q) l n ≡ slot_in (space_of old q) l n

-- each slot under each PCID has what an invalidation leaves of it
pub record IsLeftOwn (i : Invalidation) (old new : List (ℕ × (List Sheet))) : Type 0 where
  pub at : (q : ℕ) (l : Level) (n : ℕ) → slot_in (space_of new q) l n
      ≡ left_own i q l n (slot_in (space_of old q) l n)

-- each global translation is there that an invalidation leaves
pub record IsLeftGlobals (i : Invalidation) (old new : List Sheet) : Type 0 where
  pub at : (l : Level) (n : ℕ) → (slot_in new l n).translation
      ≡ (if global_goes i (level_shift l) n then None else (slot_in old l n).translation)

-- under one PCID the slots are what a change of it leaves, and the others are as they were
pub record IsChangedOwn (change : Level → ℕ → Slot → Slot) (pcid : ℕ)
    (old new : List (ℕ × (List Sheet))) : Type 0 where
  pub at : (q : ℕ) (l : Level) (n : ℕ) → slot_in (space_of new q) l n
      ≡ (if q == pcid then change l n (slot_in (space_of old q) l n)
      else slot_in (space_of old q) l n)
