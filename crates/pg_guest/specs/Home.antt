-- When all that a processor caches is sound at the present moment, which is the number of events
-- so far: what was read for it is a walk by moments, and stands since.
use Rattle.std.specs.Prelude.{◌≡◌, ℕ, ◌≤◌, Bool, true, ◌&&◌, List, [], ◌∷◌, length}
use Rattle.std.specs.Prelude.{Option, Some, None, slice_get}
use Rattle.pg_entry.specs.declared.AccessKind.{AccessKind}
use Rattle.pg_entry.specs.declared.Kind.TheVariants as kinds
use Rattle.pg_entry.specs.declared.Level.{Level}
use Rattle.pg_entry.specs.declared.Level.TheVariants.{Four}
use Rattle.pg_entry.specs.declared.Rights.{Rights}
use Rattle.pg_entry.specs.Kinds.{dirty, kind_of, table_of}
use Rattle.pg_entry.specs.Permission.{joined}
use Rattle.pg_event.specs.declared.control.Control.{Control}
use Rattle.pg_event.specs.declared.event.Event.{Event}
use Rattle.pg_event.specs.declared.keys.StructureKey.{StructureKey}
use Rattle.pg_event.specs.declared.keys.TranslationKey.{TranslationKey}
use Rattle.pg_event.specs.Form.{access_kind}
use Rattle.pg_event.specs.Heads.{Head, may_cache}
use Rattle.pg_event.specs.Invalidation.{structure_key, translation_key, structure_matches}
use Rattle.pg_event.specs.Invalidation.{translation_matches}
use Rattle.pg_event.specs.Values.{mem_at, control_at}
use Rattle.pg_event.specs.Walk.{below, entry_address, root_of}
use Rattle.pg_event.specs.Wants.{is_table}
use Rattle.pg_event.specs.Witness.{structure_survives, translation_survives}
use Rattle.pg_guest.specs.declared.instruction.Instruction.{Instruction}
use Rattle.pg_guest.specs.declared.instruction.Instruction.TheVariants.{Write, Access, MovCr3}
use Rattle.pg_guest.specs.declared.instruction.Instruction.TheVariants.{Invlpg, Invpcid}
use Rattle.pg_guest.specs.declared.instruction.Instruction.TheVariants.{MovCr4Pge}
use Rattle.pg_shadow.specs.declared.entries.Found.{Found}
use Rattle.pg_shadow.specs.declared.entries.Found.TheVariants.{Hit, Partial, Miss}
use Rattle.pg_shadow.specs.declared.entries.KeptLeaf.{KeptLeaf}
use Rattle.pg_shadow.specs.declared.entries.KeptTable.{KeptTable}
use Rattle.pg_shadow.specs.Caches.{Caches, same_space}
use Rattle.pg_shadow.specs.Find.{IsHit, HasTable}
use Rattle.pg_guest.specs.Turn.{Processor}

-- ---- a walk by moments, link by link

-- how far a walk has come: the level that it reads next, in which table, with the rights so far
pub record WalkPosition : Type 0 where
  pub level : Level
  pub table : ℕ
  pub rights : Rights

-- the position that a walk begins at (Intel SDM, vol. 3, 4.5)
abbrev pub at_root : Control → WalkPosition
at_root c = record { level = Four; table = (root_of c).table; rights = (root_of c).rights }

-- the word that a walk for an address reads there at a moment
abbrev pub word_at : List Event → ℕ → WalkPosition → ℕ → ℕ
word_at events la at w = mem_at events w (entry_address at.table at.level la)

-- the position that this word leads to
abbrev pub position_below : ℕ → List Event → ℕ → WalkPosition → ℕ → WalkPosition
position_below m events la at w = record {
  level = below at.level;
  table = table_of m (word_at events la at w);
  rights = joined at.rights (word_at events la at w);
}

-- what a walk of p reads at a position at moment w is a table, read under this PCID, and its
-- paging-structure-cache entry stands up to moment x (4.10.3)
pub record IsLink (head : Head) (events : List Event) (p la pcid : ℕ) (at : WalkPosition) (w x : ℕ)
    : Type 0 where
  pub table : is_table (kind_of head.cfg at.level (word_at events la at w)) ≡ true
  pub usable : may_cache head.version (word_at events la at w) ≡ true
  pub own : (control_at head events p w).pcid ≡ pcid
  pub order : w ≤ x
  pub stands : structure_survives head events p (structure_key pcid at.level la) w x ≡ true

-- a walk from a position, by moment w and then the others, reads tables that stand up to the next
-- moment, and ends so at the last
abbrev pub Along : Head → List Event → ℕ → ℕ → ℕ → (WalkPosition → ℕ → Type 0) →
    WalkPosition → ℕ → List ℕ → Type 0
Along head events p la pcid Ends at w [] = Ends at w
Along head events p la pcid Ends at w (x ∷ ws) =
    IsLink head events p la pcid at w x
    × Along head events p la pcid Ends (position_below head.cfg.m events la at w) x ws

-- a walk from the root by moments, of which there is one at least, ends so
abbrev pub FromRoot :
    Head → List Event → ℕ → ℕ → ℕ → (WalkPosition → ℕ → Type 0) → List ℕ → Type 0
FromRoot head events p la pcid Ends [] = ⊥
FromRoot head events p la pcid Ends (w ∷ ws) =
    Along head events p la pcid Ends (at_root (control_at head events p w)) w ws

-- ---- sound entries

-- a walk ends with the table that is kept, which stands since
pub record EndsInTable (head : Head) (events : List Event) (p la : ℕ) (key : StructureKey)
    (kept : KeptTable) (at : WalkPosition) (w : ℕ) : Type 0 where
  pub link : IsLink head events p la key.pcid at w (length events)
  pub level_is : at.level ≡ key.level
  pub position_is : position_below head.cfg.m events la at w
      ≡ record { level = below key.level; table = kept.table; rights = kept.rights }

-- a walk ends with the page that is kept, which stands since: for every PCID where its leaf had G
-- and CR4.PGE was 1 when it was read, else for the PCID of the walk (4.10.2.4)
pub record EndsInLeaf (head : Head) (events : List Event) (p la pcid : ℕ) (key : TranslationKey)
    (kept : KeptLeaf) (at : WalkPosition) (w : ℕ) : Type 0 where
  pub global_bit : Bool
  pub leaf : kind_of head.cfg at.level (word_at events la at w)
      ≡ kinds.Leaf kept.frame key.shift global_bit
  pub usable : may_cache head.version (word_at events la at w) ≡ true
  pub dirty_is : dirty (word_at events la at w) ≡ kept.dirty
  pub rights_are : joined at.rights (word_at events la at w) ≡ kept.rights
  pub own : (control_at head events p w).pcid ≡ pcid
  pub space_is : same_space key (translation_key pcid key.shift
      (global_bit && (control_at head events p w).pge) la) ≡ true
  pub order : w ≤ length events
  pub stands : translation_survives head events p key w (length events) ≡ true

-- a table is sound: some address has its key, and for each that has it the table is what a walk by
-- its moments read
pub record IsSoundTable (head : Head) (events : List Event) (p : ℕ) (key : StructureKey)
    (kept : KeptTable) : Type 0 where
  pub some : (la : ℕ) × (structure_matches key la ≡ true)
  pub each : (la : ℕ) → structure_matches key la ≡ true →
      FromRoot head events p la key.pcid (EndsInTable head events p la key kept) kept.moments

-- so is a page. The PCID of a global one's walk may be any
pub record IsSoundLeaf (head : Head) (events : List Event) (p : ℕ) (key : TranslationKey)
    (kept : KeptLeaf) : Type 0 where
  pub some : (la : ℕ) × (translation_matches key la ≡ true)
  pub each : (la : ℕ) → translation_matches key la ≡ true → (pcid : ℕ)
      × FromRoot head events p la pcid (EndsInLeaf head events p la pcid key kept) kept.moments

-- ---- at home

-- the walk under way of an access has come to what the processor caches for it now: to a page that
-- the access may use, or to a table
abbrev pub IsUnderWay : Head → Caches → ℕ → AccessKind → Found → Type 0
IsUnderWay head s la kind (Hit frame shift rights global moments) =
    IsHit s la head kind shift global frame rights moments
IsUnderWay head s la kind (Partial level table rights moments) =
    HasTable s la level (record { table = table; rights = rights; moments = moments })
IsUnderWay head s la kind Miss = Unit {0}

-- only an access has a walk under way
abbrev pub IsUnderWayFor : Head → Caches → Found → Option Instruction → Type 0
IsUnderWayFor head s way None = way ≡ Miss
IsUnderWayFor head s way (Some (Write addr value)) = way ≡ Miss
IsUnderWayFor head s way (Some (Access flags la)) = IsUnderWay head s la (access_kind flags) way
IsUnderWayFor head s way (Some (MovCr3 operand)) = way ≡ Miss
IsUnderWayFor head s way (Some (Invlpg la)) = way ≡ Miss
IsUnderWayFor head s way (Some (Invpcid kind pcid la)) = way ≡ Miss
IsUnderWayFor head s way (Some (MovCr4Pge on)) = way ≡ Miss

-- what p caches is sound: its control registers are those that the events leave, and all entries
-- are sound
pub record AreSound (head : Head) (events : List Event) (p : ℕ) (s : Caches) : Type 0 where
  pub width : s.width ≡ head.cfg.m
  pub control : s.control ≡ control_at head events p (length events)
  pub tables : (key : StructureKey) (kept : KeptTable) → s.tables key ≡ Some kept →
      IsSoundTable head events p key kept
  pub leaves : (key : TranslationKey) (kept : KeptLeaf) → s.leaves key ≡ Some kept →
      IsSoundLeaf head events p key kept

-- p is at home: what it caches is sound, and its walk has come to what it caches
pub record HasSoundCaches (head : Head) (events : List Event) (p : ℕ) (x : Processor) : Type 0 where
  pub sound : AreSound head events p x.caches
  pub way : IsUnderWayFor head x.caches x.way (slice_get x.instructions x.place)
