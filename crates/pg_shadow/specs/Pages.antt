-- A tree of pages: each slot of a page may lead to a page of the level below.
use Rattle.std.specs.Prelude.{◌≡◌, ℕ, ◌+◌, ◌*◌, ◌/◌, ◌%◌, ◌^◌, ◌<◌, ◌≤◌, ◌==◌, List, []}
use Rattle.std.specs.Prelude.{if◌then◌else◌, length, slice_index_or, replicate, Option, Some, None}
use Rattle.pg_entry.specs.declared.Level.{Level}
use Rattle.pg_entry.specs.declared.Level.TheVariants.{Four, Three, Two, One}
use Rattle.pg_event.specs.Walk.{below}
use Rattle.pg_shadow.specs.declared.page.Place.{Place}
use Rattle.pg_shadow.specs.Slots.{no_slot, bare}

-- a page: its level, the bits of linear addresses above that level, and its places
pub record Sheet : Type 0 where
  pub level : Level
  pub prefix : ℕ
  pub places : List Place

abbrev pub no_place : Place
no_place = record { slot = no_slot; below = None }

-- there is no table at a place
abbrev pub HasNone : List Place → ℕ → Type 0
HasNone places i = (slice_index_or places i no_place).slot.structure ≡ None

-- a page has 512 places, of which those from one on and below another may have tables
pub record IsPage (prefix first end : ℕ) (places : List Place) : Type 0 where
  pub low : prefix < 2 ^ 40
  pub full : length places ≡ 512
  pub within : end ≤ 512
  pub below : (i : ℕ) → i < first → HasNone places i
  pub above : (i : ℕ) → end ≤ i → HasNone places i

abbrev pub no_page : Sheet
no_page = record { level = Four; prefix = 0; places = [] }

abbrev pub empty_page : Level → ℕ → Sheet
empty_page level prefix =
    record { level = level; prefix = prefix; places = replicate 512 no_place }

abbrev pub page_in : List Sheet → ℕ → Sheet
page_in pages j = slice_index_or pages j no_page

abbrev pub place_in : List Sheet → ℕ → ℕ → Place
place_in pages j i = slice_index_or (page_in pages j).places i no_place

-- the place of a page, if it is there
abbrev pub place_of : List Sheet → Option ℕ → ℕ → Place
place_of pages None i = no_place
place_of pages (Some j) i = place_in pages j i

-- the page that holds the places of a level for the linear addresses with these bits above it: the
-- first page at level 4, and else what is reached through the level above
abbrev pub page_four : List Sheet → ℕ → Option ℕ
page_four pages prefix = if prefix == 0 then Some 0 else None

abbrev pub page_three : List Sheet → ℕ → Option ℕ
page_three pages prefix = (place_of pages (page_four pages (prefix / 512)) (prefix % 512)).below

abbrev pub page_two : List Sheet → ℕ → Option ℕ
page_two pages prefix = (place_of pages (page_three pages (prefix / 512)) (prefix % 512)).below

abbrev pub page_one : List Sheet → ℕ → Option ℕ
page_one pages prefix = (place_of pages (page_two pages (prefix / 512)) (prefix % 512)).below

abbrev pub page_at : List Sheet → Level → ℕ → Option ℕ
page_at pages Four prefix = page_four pages prefix
page_at pages Three prefix = page_three pages prefix
page_at pages Two prefix = page_two pages prefix
page_at pages One prefix = page_one pages prefix

-- a place without its table
abbrev pub bare_place : Place → Place
bare_place p = record p { slot = bare p.slot }

-- a page without its tables
pub record IsBarePage (old new : Sheet) : Type 0 where
  pub level : new.level ≡ old.level
  pub prefix : new.prefix ≡ old.prefix
  pub places : (i : ℕ) → slice_index_or new.places i no_place
      ≡ bare_place (slice_index_or old.places i no_place)

-- the page k is reached through a place
pub record IsChild (pages : List Sheet) (j i k : ℕ) : Type 0 where
  pub within : k < length pages
  pub level : (page_in pages k).level ≡ below (page_in pages j).level
  pub prefix : (page_in pages k).prefix ≡ (page_in pages j).prefix * 512 + i

-- each page stands where it says
pub record IsTree (pages : List Sheet) : Type 0 where
  pub level : (page_in pages 0).level ≡ Four
  pub prefix : (page_in pages 0).prefix ≡ 0
  pub children : (j i k : ℕ) → (place_in pages j i).below ≡ Some k → IsChild pages j i k
