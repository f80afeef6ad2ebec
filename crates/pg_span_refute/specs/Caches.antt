-- What a processor may have cached for an address while it stands between two of its events, in
-- whichever order (Intel SDM, vol. 3, 4.10.2 to 4.10.4).
use Rattle.std.specs.Prelude.{◌≡◌, ℕ, Bool, true, false, not, ◌&&◌, ◌||◌, List, ◌++◌, Some}
use Rattle.pg_entry.specs.declared.AccessKind.{AccessKind}
use Rattle.pg_entry.specs.declared.Cause.{Cause}
use Rattle.pg_entry.specs.declared.Cause.TheVariants as causes
use Rattle.pg_entry.specs.declared.Kind.{Kind}
use Rattle.pg_entry.specs.declared.Kind.TheVariants as kinds
use Rattle.pg_entry.specs.declared.Level.{Level}
use Rattle.pg_entry.specs.declared.Level.TheVariants.{Four, Three, Two, One}
use Rattle.pg_entry.specs.Kinds.{table_of, kind_of}
use Rattle.pg_entry.specs.Permission.{joined, fault_code}
use Rattle.pg_event.specs.declared.control.Control.{Control}
use Rattle.pg_event.specs.declared.event.Event.{Event}
use Rattle.pg_event.specs.declared.event.Event.TheVariants as events
use Rattle.pg_event.specs.declared.event.Outcome.{Outcome}
use Rattle.pg_event.specs.declared.event.Outcome.TheVariants as outcomes
use Rattle.pg_event.specs.declared.event.Want.{Want}
use Rattle.pg_event.specs.declared.event.Want.TheVariants as wants
use Rattle.pg_event.specs.declared.walk.Parent.{Parent}
use Rattle.pg_entry.specs.declared.Cfg.{Cfg}
use Rattle.pg_entry.specs.declared.Rules.{Rules}
use Rattle.pg_event.specs.Form.{access_kind, says_dirty}
use Rattle.pg_event.specs.Heads.{Head, may_cache}
use Rattle.pg_event.specs.declared.version.Version.{Version}
use Rattle.pg_event.specs.Invalidation.{structure_key}
use Rattle.pg_event.specs.Invalidation.{must_drop_structure, must_drop_translation}
use Rattle.pg_event.specs.Walk.{entry_address, below, root_of}
use Rattle.pg_event.specs.Wants.{want_of, is_wanted, may_dirty, is_table}
use Rattle.pg_machine.specs.declared.step.Translation.{Translation}
use Rattle.pg_machine.specs.Machine.{IsIn, Answers, is_usable, translation_at}
use Rattle.pg_span_run.specs.Orders.{Spanned}
use Rattle.pg_span_refute.specs.declared.caches.Caches.{Caches}
use Rattle.pg_span_refute.specs.declared.slot.Slot.{Slot}
use Rattle.pg_span_refute.specs.declared.table.Table.{Table}
use Rattle.pg_span_refute.specs.Memory.{MayHold}

-- the control registers, the tables that a walk may go on in, and the translations
pub record Known : Type 0 where
  pub control : Control
  pub tables : List Table
  pub translations : List Translation

-- the table that an entry refers to (4.5), with the rights down to it (4.6)
abbrev pub table_by : ℕ → Parent → ℕ → Parent
table_by m from entry = record { table = table_of m entry; rights = joined from.rights entry }

-- the table that a structure entry of a level gives
abbrev pub table_below : Level → ℕ → Parent → Table
table_below up pcid from = record { level = below up; pcid = pcid; from = from }

-- the word that a walk for an address reads in a table
abbrev pub word_in : ℕ → Table → ℕ
word_in la t = entry_address t.from.table t.level la

-- what an entry gives to a walk that reads it in a table is known, where it may be cached: in
-- records with assists it has A (4.8)
pub record IsTaken (version : Version) (cfg : Cfg) (la : ℕ) (k : Known) (t : Table) (entry : ℕ) :
    Type 0 where
  pub table : may_cache version entry ≡ true → is_table (kind_of cfg t.level entry) ≡ true →
      IsIn (table_below t.level t.pcid (table_by cfg.m t.from entry)) k.tables
  pub leaf : may_cache version entry ≡ true → (x : Translation) →
      translation_at k.control la (joined t.from.rights entry) entry
      (kind_of cfg t.level entry) ≡ Some x → IsIn x k.translations

-- the root is known, and what each entry gives that a word may hold in the slot
pub record IsFilled (s : Spanned) (slot : Slot) (la : ℕ) (k : Known) : Type 0 where
  pub root : IsIn (record { level = Four; pcid = k.control.pcid; from = root_of k.control })
      k.tables
  pub each : (t : Table) (entry : ℕ) → IsIn t k.tables → t.pcid ≡ k.control.pcid →
      MayHold s slot (word_in la t) entry → IsTaken s.head.version s.head.cfg la k t entry

-- nothing that was known before is forgotten
pub record Grows (k l : Known) : Type 0 where
  pub control : l.control ≡ k.control
  pub tables : (t : Table) → IsIn t k.tables → IsIn t l.tables
  pub translations : (x : Translation) → IsIn x k.translations → IsIn x l.translations

-- nothing is forgotten, and what is new stands after it
pub record Extends (k l : Known) : Type 0 where
  pub control : l.control ≡ k.control
  pub more_tables : List Table
  pub tables : l.tables ≡ k.tables ++ more_tables
  pub more_translations : List Translation
  pub translations : l.translations ≡ k.translations ++ more_translations

-- what a processor has in lists
abbrev pub known_of : Caches → Known
known_of c = record {
  control = c.control;
  tables = c.tables.items;
  translations = c.translations.items;
}

-- an event of the processor need not drop the structure entry that gave a table: a root stays only
-- as the control registers say
abbrev pub may_stay_at : Rules → Control → Event → ℕ → ℕ → Level → Bool
may_stay_at rules c e la pcid Four = false
may_stay_at rules c e la pcid Three =
    not (must_drop_structure rules c e (structure_key pcid Four la))
may_stay_at rules c e la pcid Two =
    not (must_drop_structure rules c e (structure_key pcid Three la))
may_stay_at rules c e la pcid One =
    not (must_drop_structure rules c e (structure_key pcid Two la))

abbrev pub may_stay : Rules → Control → Event → ℕ → Table → Bool
may_stay rules c e la t = may_stay_at rules c e la t.pcid t.level

-- what an event of the processor need not drop under these rules stays known (4.10.4.1)
pub record IsLeft (rules : Rules) (la : ℕ) (e : Event) (k l : Known) : Type 0 where
  pub tables : (up : Level) (pcid : ℕ) (from : Parent) → (up ≡ One → ⊥) →
      must_drop_structure rules k.control e (structure_key pcid up la) ≡ false →
      IsIn (table_below up pcid from) k.tables → IsIn (table_below up pcid from) l.tables
  pub translations : (x : Translation) → must_drop_translation rules k.control e x.key ≡ false →
      IsIn x k.translations → IsIn x l.translations

-- no known table has an entry of this kind that gives the outcome (4.7)
abbrev pub HasNoFault :
    Spanned → Slot → ℕ → Known → AccessKind → Outcome → Kind → Cause → Type 0
HasNoFault s slot la k access outcome kind cause = (t : Table) (entry : ℕ) → IsIn t k.tables →
    t.pcid ≡ k.control.pcid → MayHold s slot (word_in la t) entry →
    kind_of s.head.cfg t.level entry ≡ kind →
    outcome ≡ outcomes.Fault (fault_code s.head.cfg access cause) → ⊥

-- what an entry is where it makes an access fault by a cause, but for its rights
abbrev pub kind_for : Cause → Kind
kind_for causes.Absent = kinds.Absent
kind_for causes.Reserved = kinds.Reserved
kind_for causes.Denied = kinds.Absent

-- no known translation gives the outcome (4.6)
abbrev pub HasNoAnswer : Head → ℕ → Known → AccessKind → Outcome → Type 0
HasNoAnswer head la k access outcome = (x : Translation) → IsIn x k.translations →
    is_usable k.control la x ≡ true → Answers head access la x outcome → ⊥

-- nothing that is known gives an access this outcome (4.6, 4.7)
abbrev pub CannotCome : Spanned → Slot → ℕ → Known → AccessKind → Outcome → Want → Type 0
CannotCome s slot la k access outcome wants.Leaf = HasNoAnswer s.head la k access outcome
CannotCome s slot la k access outcome wants.Absent =
    HasNoFault s slot la k access outcome kinds.Absent causes.Absent
CannotCome s slot la k access outcome wants.Reserved =
    HasNoFault s slot la k access outcome kinds.Reserved causes.Reserved
CannotCome s slot la k access outcome wants.Present = Unit {0}

-- an assist may update an entry that a walk reads in a table: it is present and has no reserved
-- bits, and where D is set it is a leaf whose rights allow the access (4.8)
abbrev pub may_update_entry : Cfg → AccessKind → Bool → Table → ℕ → Bool
may_update_entry cfg access with_dirty t entry =
    is_wanted wants.Present (kind_of cfg t.level entry)
    && (not with_dirty || may_dirty cfg access (joined t.from.rights entry)
    (kind_of cfg t.level entry))

-- no known table has a word that an assist may update, at this address
abbrev pub HasNoUpdate : Spanned → Slot → ℕ → Known → AccessKind → ℕ → Bool → Type 0
HasNoUpdate s slot la k access word with_dirty = (t : Table) (entry : ℕ) → IsIn t k.tables →
    t.pcid ≡ k.control.pcid → word ≡ word_in la t → MayHold s slot (word_in la t) entry →
    may_update_entry s.head.cfg access with_dirty t entry ≡ true → ⊥

-- nothing that is known gives an event, which names a walk
abbrev pub IsNotGiven : Spanned → Slot → ℕ → Known → Event → Type 0
IsNotGiven s slot la k (events.Write p addr value) = Unit {0}
IsNotGiven s slot la k (events.Access p flags address outcome moments) =
    CannotCome s slot la k (access_kind flags) outcome (want_of outcome)
IsNotGiven s slot la k (events.Assist p flags address word moments) =
    HasNoUpdate s slot la k (access_kind flags) word (says_dirty flags)
IsNotGiven s slot la k (events.MovCr3 p operand) = Unit {0}
IsNotGiven s slot la k (events.Invlpg p address) = Unit {0}
IsNotGiven s slot la k (events.Invpcid p kind pcid address) = Unit {0}
IsNotGiven s slot la k (events.MovCr4Pge p on) = Unit {0}
