-- What one processor caches, as a map: what each key has, with the moments at which it was read.
use Rattle.std.specs.Prelude.{◌≡◌, ℕ, ◌%◌, ◌^◌, ◌<◌, ◌≤◌, Bool, true, false, not, ◌&&◌, ◌||◌}
use Rattle.std.specs.Prelude.{◌==◌, if◌then◌else◌, List, length, Option, Some, None, IfSome}
use Rattle.pg_entry.specs.declared.Level.{Level}
use Rattle.pg_entry.specs.Rules.{all_rules}
use Rattle.pg_entry.specs.declared.Level.TheVariants.{Four, Three, Two, One}
use Rattle.pg_event.specs.declared.event.Event.{Event}
use Rattle.pg_event.specs.declared.control.Control.{Control}
use Rattle.pg_event.specs.declared.keys.StructureKey.{StructureKey}
use Rattle.pg_event.specs.declared.keys.TranslationKey.{TranslationKey}
use Rattle.pg_event.specs.Form.{processor_of}
use Rattle.pg_event.specs.Values.{controlled}
use Rattle.pg_event.specs.Invalidation.{level_shift, must_drop_structure, must_drop_translation}
use Rattle.pg_shadow.specs.declared.entries.KeptTable.{KeptTable}
use Rattle.pg_shadow.specs.declared.entries.KeptLeaf.{KeptLeaf}

-- the paging-structure-cache entries and the translations of a processor, with its control
-- registers and MAXPHYADDR
pub record Caches : Type 0 where
  pub width : ℕ
  pub control : Control
  pub tables : StructureKey → Option KeptTable
  pub leaves : TranslationKey → Option KeptLeaf

-- nothing is cached
abbrev pub empty : ℕ → Control → Caches
empty width c = record {
  width = width;
  control = c;
  tables = λ k. None;
  leaves = λ k. None;
}

-- whether two keys name one entry
abbrev pub same_structure : StructureKey → StructureKey → Bool
same_structure a b =
    a.pcid == b.pcid && level_shift a.level == level_shift b.level && a.prefix == b.prefix

-- whether translations stand in one space: global ones all do, the others by their PCIDs
abbrev pub same_space : TranslationKey → TranslationKey → Bool
same_space a b = if a.global then b.global else not b.global && a.pcid == b.pcid

abbrev pub same_translation : TranslationKey → TranslationKey → Bool
same_translation a b = same_space a b && a.shift == b.shift && a.number == b.number

-- a key has a table, in place of what it had
abbrev pub with_table : StructureKey → KeptTable → Caches → Caches
with_table key kept s =
    record s { tables = λ k. if same_structure key k then Some kept else s.tables k }

-- a key has a page, in place of what it had
abbrev pub with_leaf : TranslationKey → KeptLeaf → Caches → Caches
with_leaf key kept s =
    record s { leaves = λ k. if same_translation key k then Some kept else s.leaves k }

-- an event of the processor, which is held to all rules, takes out what it must, and nothing else,
-- and changes the control registers (Intel SDM, vol. 3, 4.10.4.1)
abbrev pub after : Event → Caches → Caches
after e s = record {
  width = s.width;
  control = controlled s.width (processor_of e) s.control e;
  tables = λ k. if must_drop_structure all_rules s.control e k then None else s.tables k;
  leaves = λ k. if must_drop_translation all_rules s.control e k then None else s.leaves k;
}

-- the levels whose entries refer to tables
abbrev pub is_table_level : Level → Bool
is_table_level Four = true
is_table_level Three = true
is_table_level Two = true
is_table_level One = false

-- the binary logarithm of the size of a page: 4 KB, 2 MB or 1 GB
abbrev pub is_page_shift : ℕ → Bool
is_page_shift shift = shift == 12 || shift == 21 || shift == 30

-- how many levels a walk has read where the last gives 2 ^ shift bytes for each entry
abbrev pub levels_to : ℕ → ℕ
levels_to shift =
    if shift == 39 then 1 else if shift == 30 then 2 else if shift == 21 then 3 else 4

-- a physical address below 2 ^ width, of a block of 2 ^ shift bytes
pub record IsBlock (width shift addr : ℕ) : Type 0 where
  pub below : addr < 2 ^ width
  pub aligned : addr % 2 ^ shift ≡ 0

-- a table that an entry of a level may refer to, read at so many moments
pub record IsTableAt (width : ℕ) (level : Level) (table : ℕ) (moments : List ℕ) : Type 0 where
  pub refers : is_table_level level ≡ true
  pub block : IsBlock width 12 table
  pub count : length moments ≡ levels_to (level_shift level)

-- a page that a leaf may map, read at so many moments
pub record IsPageAt (width shift frame : ℕ) (moments : List ℕ) : Type 0 where
  pub size : is_page_shift shift ≡ true
  pub block : IsBlock width shift frame
  pub count : length moments ≡ levels_to shift

-- MAXPHYADDR is 36 to 52, and the root and all that is cached lie within the physical addresses
pub record AreInRange (s : Caches) : Type 0 where
  pub least : 36 ≤ s.width
  pub most : s.width ≤ 52
  pub root : IsBlock s.width 12 s.control.root
  pub tables : (k : StructureKey) →
      IfSome (s.tables k) (λ t. IsTableAt s.width k.level t.table t.moments)
  pub leaves : (k : TranslationKey) →
      IfSome (s.leaves k) (λ l. IsPageAt s.width k.shift l.frame l.moments)
