-- What a look-up finds (Intel SDM, vol. 3, 4.10.2.4 and 4.10.3).
use Rattle.std.specs.Prelude.{◌≡◌, ℕ, ◌<◌, Bool, true, false, not, ◌&&◌, if◌then◌else◌, List}
use Rattle.std.specs.Prelude.{Option, Some, None, IfSome}
use Rattle.pg_entry.specs.declared.AccessKind.{AccessKind}
use Rattle.pg_entry.specs.declared.Level.{Level}
use Rattle.pg_entry.specs.declared.Level.TheVariants.{Four, Three, Two}
use Rattle.pg_entry.specs.declared.Rights.{Rights}
use Rattle.pg_entry.specs.Permission.{is_write, is_allowed}
use Rattle.pg_event.specs.Heads.{Head, judges_accessed}
use Rattle.pg_event.specs.Invalidation.{level_shift, structure_key, translation_key}
use Rattle.pg_shadow.specs.declared.entries.KeptTable.{KeptTable}
use Rattle.pg_shadow.specs.declared.entries.KeptLeaf.{KeptLeaf}
use Rattle.pg_shadow.specs.declared.slot.Path.{Path}
use Rattle.pg_shadow.specs.declared.entries.Found.{Found}
use Rattle.pg_shadow.specs.declared.entries.Found.TheVariants.{Hit, Partial, Miss}
use Rattle.pg_shadow.specs.Caches.{Caches, is_table_level, is_page_shift}
use Rattle.pg_shadow.specs.Caches.{IsTableAt, IsPageAt}

-- whether an access may use a translation. Where accessed and dirty flags are judged, a write that
-- the rights allow needs D (4.8); one that they deny faults whatever D is
abbrev pub is_usable : Head → AccessKind → KeptLeaf → Bool
is_usable head kind leaf =
    not (judges_accessed head.version && is_write kind.op
    && is_allowed head.cfg leaf.rights kind && not leaf.dirty)

-- this translation where there is one that may be used, else the other
abbrev pub leaf_or : Head → AccessKind → ℕ → Bool → Option KeptLeaf → Found → Found
leaf_or head kind shift global None other = other
leaf_or head kind shift global (Some leaf) other =
    if is_usable head kind leaf
    then Hit leaf.frame shift leaf.rights global leaf.moments else other

-- the translation by a page of 2 ^ shift bytes, that of the current PCID before the global one
abbrev pub page_or : Caches → ℕ → Head → AccessKind → ℕ → Found → Found
page_or s la head kind shift other =
    leaf_or head kind shift false (s.leaves (translation_key s.control.pcid shift false la))
    (leaf_or head kind shift true (s.leaves (translation_key s.control.pcid shift true la)) other)

-- this table where there is one, else the other
abbrev pub table_or : Level → Option KeptTable → Found → Found
table_or level None other = other
table_or level (Some t) other = Partial level t.table t.rights t.moments

-- the table that an entry of a level under the current PCID refers to
abbrev pub structure_or : Caches → ℕ → Level → Found → Found
structure_or s la level other =
    table_or level (s.tables (structure_key s.control.pcid level la)) other

-- a translation, by a page of 4 KB before 2 MB before 1 GB; else the deepest table
abbrev pub found : Caches → ℕ → Head → AccessKind → Found
found s la head kind =
    page_or s la head kind 12 (page_or s la head kind 21 (page_or s la head kind 30
    (structure_or s la Two (structure_or s la Three (structure_or s la Four Miss)))))

-- what `found` gives, by the slots that a walk meets under the current PCID and among the globals
abbrev pub chosen : Path → Path → Head → AccessKind → Found
chosen own globals head kind =
    leaf_or head kind 12 false own.one.translation
    (leaf_or head kind 12 true globals.one.translation
    (leaf_or head kind 21 false own.two.translation
    (leaf_or head kind 21 true globals.two.translation
    (leaf_or head kind 30 false own.three.translation
    (leaf_or head kind 30 true globals.three.translation
    (table_or Two own.two.structure (table_or Three own.three.structure
    (table_or Four own.four.structure Miss))))))))

-- what is found lies within the physical addresses, and was read at as many moments as levels
abbrev pub IsInRange : ℕ → Found → Type 0
IsInRange width (Hit frame shift rights global moments) = IsPageAt width shift frame moments
IsInRange width (Partial level table rights moments) = IsTableAt width level table moments
IsInRange width Miss = Unit {0}

-- ---- what that means

-- a translation of the address is kept, under the current PCID or as a global one, and may be used
pub record IsHit (s : Caches) (la : ℕ) (head : Head) (kind : AccessKind) (shift : ℕ)
    (global : Bool) (frame : ℕ) (rights : Rights) (moments : List ℕ) : Type 0 where
  pub leaf : KeptLeaf
  pub kept : s.leaves (translation_key s.control.pcid shift global la) ≡ Some leaf
  pub usable : is_usable head kind leaf ≡ true
  pub size : is_page_shift shift ≡ true
  pub frame_is : leaf.frame ≡ frame
  pub rights_are : leaf.rights ≡ rights
  pub moments_are : leaf.moments ≡ moments

-- no translation of the address that is kept, under the current PCID or as a global one, may be
-- used
pub record HasNoPage (s : Caches) (la : ℕ) (head : Head) (kind : AccessKind) : Type 0 where
  pub at : (shift : ℕ) (global : Bool) → is_page_shift shift ≡ true →
      IfSome (s.leaves (translation_key s.control.pcid shift global la))
      (λ leaf. is_usable head kind leaf ≡ false)

-- no table is kept for the address under the current PCID, at the levels with lower shifts than
-- this
pub record HasNoTable (s : Caches) (la shift : ℕ) : Type 0 where
  pub at : (level : Level) → is_table_level level ≡ true → level_shift level < shift →
      s.tables (structure_key s.control.pcid level la) ≡ None

-- a table of a level is kept for the address under the current PCID
abbrev pub HasTable : Caches → ℕ → Level → KeptTable → Type 0
HasTable s la level table = s.tables (structure_key s.control.pcid level la) ≡ Some table

-- a translation that may be used; else there is none, and the table is the deepest that is kept;
-- else there is no table either
abbrev pub IsFound : Caches → ℕ → Head → AccessKind → Found → Type 0
IsFound s la head kind (Hit frame shift rights global moments) =
    IsHit s la head kind shift global frame rights moments
IsFound s la head kind (Partial level table rights moments) =
    HasTable s la level (record { table = table; rights = rights; moments = moments })
    × HasNoTable s la (level_shift level) × HasNoPage s la head kind
IsFound s la head kind Miss = HasNoTable s la 48 × HasNoPage s la head kind
