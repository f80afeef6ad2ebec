-- What is kept under one PCID, or for all of them: a slot for each level and number.
use Rattle.std.specs.Prelude.{◌≡◌, ℕ, ◌/◌, ◌%◌, ◌<◌, Bool, ◌==◌, ◌&&◌, if◌then◌else◌, List, []}
use Rattle.std.specs.Prelude.{length, Option, Some, None, Result, IfOk}
use Rattle.std.specs.declared.alloc.AllocError.{AllocError}
use Rattle.pg_entry.specs.declared.Level.{Level}
use Rattle.pg_entry.specs.declared.Level.TheVariants.{Four, Three, Two, One}
use Rattle.pg_event.specs.Invalidation.{level_shift, bits_from}
use Rattle.pg_shadow.specs.declared.entries.KeptLeaf.{KeptLeaf}
use Rattle.pg_shadow.specs.declared.slot.Slot.{Slot}
use Rattle.pg_shadow.specs.declared.slot.KeptEntry.{KeptEntry}
use Rattle.pg_shadow.specs.declared.slot.Path.{Path}
use Rattle.pg_shadow.specs.Slots.{no_slot, with_kept, bare}
use Rattle.pg_shadow.specs.Left.{is_on_path}
use Rattle.pg_shadow.specs.Pages.{Sheet, place_of, page_at}

abbrev pub nothing : List Sheet
nothing = []

-- what stands at a level for the linear addresses whose bits from the level's shift on are a number
unfoldable pub slot_in : List Sheet → Level → ℕ → Slot
slot_in pages level number =
    (place_of pages (page_at pages level (number / 512)) (number % 512)).slot

-- the translation by a page of 2 ^ shift bytes
abbrev pub leaf_in : List Sheet → ℕ → ℕ → Option KeptLeaf
leaf_in s shift number =
    if shift == 12 then (slot_in s One number).translation else
    if shift == 21 then (slot_in s Two number).translation else
    if shift == 30 then (slot_in s Three number).translation else None

-- the slots that a walk for a linear address meets
abbrev pub path_in : List Sheet → ℕ → Path
path_in s la = record {
  four = slot_in s Four (bits_from 39 la);
  three = slot_in s Three (bits_from 30 la);
  two = slot_in s Two (bits_from 21 la);
  one = slot_in s One (bits_from 12 la);
}

-- whether this is the slot
abbrev pub is_slot : Level → ℕ → Level → ℕ → Bool
is_slot level number l n = level_shift level == level_shift l && number == n

-- one slot has an entry more, and the others are as they were
pub record Keeps (old new : List Sheet) (level : Level) (number : ℕ) (kept : KeptEntry) :
    Type 0 where
  pub at : (l : Level) (n : ℕ) → slot_in new l n
      ≡ (if is_slot level number l n then with_kept kept (slot_in old l n) else slot_in old l n)

-- each slot is as it was
pub record IsSame (old new : List Sheet) : Type 0 where
  pub at : (l : Level) (n : ℕ) → slot_in new l n ≡ slot_in old l n

-- each slot is without its table
pub record IsBared (old new : List Sheet) : Type 0 where
  pub at : (l : Level) (n : ℕ) → slot_in new l n ≡ bare (slot_in old l n)

-- the slots on the path of an address are empty, and the others are as they were
pub record IsForgotten (la : ℕ) (old new : List Sheet) : Type 0 where
  pub at : (l : Level) (n : ℕ) →
      slot_in new l n ≡ (if is_on_path l n la then no_slot else slot_in old l n)

-- this page holds the places of a level for the linear addresses with these bits above it
pub record IsPageFor (pages : List Sheet) (level : Level) (prefix j : ℕ) : Type 0 where
  pub at : page_at pages level prefix ≡ Some j
  pub within : j < length pages

-- this page is the one above
abbrev pub IsAbove : List Sheet → Level → ℕ → ℕ → Type 0
IsAbove pages Four prefix j = ⊥
IsAbove pages Three prefix j = IsPageFor pages Four (prefix / 512) j
IsAbove pages Two prefix j = IsPageFor pages Three (prefix / 512) j
IsAbove pages One prefix j = IsPageFor pages Two (prefix / 512) j

-- a page was looked for, and made where there was none: nothing else changes
pub record HasPage (old new : List Sheet) (level : Level) (prefix : ℕ)
    (result : Result ℕ AllocError) : Type 0 where
  pub here : IfOk result (λ j. IsPageFor new level prefix j)
  pub same : IsSame old new
