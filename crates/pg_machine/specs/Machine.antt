-- The machine: memory, and for each processor its control registers and its caches. A cache is a
-- set, which a list stands for.
use Rattle.std.specs.Prelude.{◌≡◌, ℕ, ◌+◌, ◌%◌, ◌^◌, ◌<◌, Bool, true, false, not, ◌&&◌, ◌||◌, ◌==◌}
use Rattle.std.specs.Prelude.{◌⊎◌, if◌then◌else◌, List, [], ◌∷◌, length, filter, Option, Some, None}
use Rattle.std.specs.Prelude.{slice_get}
use Rattle.pg_entry.specs.declared.Rights.{Rights}
use Rattle.pg_entry.specs.declared.AccessKind.{AccessKind}
use Rattle.pg_entry.specs.declared.Level.{Level}
use Rattle.pg_entry.specs.declared.Level.TheVariants.{Four, Three, Two, One}
use Rattle.pg_entry.specs.declared.Kind.{Kind}
use Rattle.pg_entry.specs.declared.Kind.TheVariants as kinds
use Rattle.pg_entry.specs.declared.Cause.{Cause}
use Rattle.pg_entry.specs.declared.Cause.TheVariants as causes
use Rattle.pg_entry.specs.Kinds.{dirty, table_of, kind_of}
use Rattle.pg_entry.specs.Permission.{joined, is_write, is_allowed, fault_code}
use Rattle.pg_event.specs.declared.event.Event.{Event}
use Rattle.pg_event.specs.declared.event.Event.TheVariants as events
use Rattle.pg_event.specs.declared.event.Outcome.{Outcome}
use Rattle.pg_event.specs.declared.event.Outcome.TheVariants as outcomes
use Rattle.pg_event.specs.declared.event.Want.{Want}
use Rattle.pg_event.specs.declared.event.Want.TheVariants as wants
use Rattle.pg_event.specs.declared.version.Version.{Version}
use Rattle.pg_event.specs.Heads.{Head, judges_accessed}
pub use Rattle.pg_event.specs.Heads.{may_cache}
use Rattle.pg_event.specs.Form.{processor_of, is_canonical, access_kind, says_dirty, broken_rule}
use Rattle.pg_event.specs.declared.control.Control.{Control}
use Rattle.pg_event.specs.Values.{written, controlled, started}
use Rattle.pg_event.specs.Invalidation.{xor, level_shift, structure_key, translation_key}
use Rattle.pg_event.specs.Invalidation.{translation_matches, must_drop_structure}
use Rattle.pg_event.specs.Invalidation.{must_drop_translation}
use Rattle.pg_event.specs.Walk.{entry_address, root_of}
use Rattle.pg_event.specs.Wants.{want_of, is_wanted, may_dirty}
use Rattle.pg_event.specs.declared.walk.Parent.{Parent}
use Rattle.pg_machine.specs.declared.step.Structure.{Structure}
use Rattle.pg_machine.specs.declared.step.Translation.{Translation}
use Rattle.pg_machine.specs.declared.step.Member.{Member}
use Rattle.pg_machine.specs.declared.step.Member.TheVariants as members
use Rattle.pg_machine.specs.declared.step.Step.{Step}
use Rattle.pg_machine.specs.declared.step.Step.TheVariants.{Fill4, Fill3, Fill2, FillLeaf, Drop, Do}

-- x is a member
abbrev pub IsIn : {X : Type 0} → X → List X → Type 0
IsIn x [] = ⊥
IsIn x (y ∷ ys) = (y ≡ x) ⊎ IsIn x ys

pub record State : Type 0 where
  pub memory : ℕ → ℕ
  pub control : ℕ → Control
  pub structures : ℕ → List Structure
  pub translations : ℕ → List Translation

-- the state at the start of a run
abbrev pub start : Head → State
start head = record {
  memory = λ a. 0;
  control = λ p. started head.cfg.m (slice_get head.processors p);
  structures = λ p. [];
  translations = λ p. [];
}

-- the structure entry of a table that a level gave
abbrev pub structure_at : State → ℕ → ℕ → Level → Parent → Structure
structure_at s p la level from = record {
  key = structure_key (s.control p).pcid level la;
  table = from.table;
  rights = from.rights;
}

-- a walk of p for an address may go on in this table at this level: at level 4 the root, below it
-- what a structure entry gives
abbrev pub MayRead : State → ℕ → ℕ → Level → Parent → Type 0
MayRead s p la Four from = from ≡ root_of (s.control p)
MayRead s p la Three from = IsIn (structure_at s p la Four from) (s.structures p)
MayRead s p la Two from = IsIn (structure_at s p la Three from) (s.structures p)
MayRead s p la One from = IsIn (structure_at s p la Two from) (s.structures p)

-- the entry that a level has for an address, as memory has it now
abbrev pub entry_now : State → ℕ → Level → Parent → ℕ
entry_now s la level from = s.memory (entry_address from.table level la)

-- the processor is there, and the address is canonical
abbrev pub IsWalkable : Head → ℕ → ℕ → Type 0
IsWalkable head p la = (p < length head.processors) × (is_canonical la ≡ true)

-- a walk may read and cache the entry of a level, and this is what it is
abbrev pub Finds : Head → State → ℕ → ℕ → Level → Parent → Kind → Type 0
Finds head s p la level from kind =
    IsWalkable head p la × MayRead s p la level from
    × (may_cache head.version (entry_now s la level from) ≡ true)
    × (kind_of head.cfg level (entry_now s la level from) ≡ kind)

-- the level gives a table, the level gives a leaf
abbrev pub FindsTable : Head → State → ℕ → ℕ → Level → Parent → Type 0
FindsTable head s p la level from =
    (addr : ℕ) × Finds head s p la level from (kinds.Table addr)

abbrev pub FindsLeaf : Head → State → ℕ → ℕ → Level → Parent → Type 0
FindsLeaf head s p la level from =
    (frame shift : ℕ) × (global : Bool)
    × Finds head s p la level from (kinds.Leaf frame shift global)

-- a translation of p that may be used for an address
abbrev pub is_usable : Control → ℕ → Translation → Bool
is_usable c la t = translation_matches t.key la && (c.pcid == t.key.pcid || t.key.global)

-- a translation may be used for a write: where dirty flags are judged, its leaf had D (4.8)
abbrev pub may_serve : Version → AccessKind → Translation → Bool
may_serve version access t = not (judges_accessed version && is_write access.op) || t.dirty

-- what a translation answers
abbrev pub Answers : Head → AccessKind → ℕ → Translation → Outcome → Type 0
Answers head access la t (outcomes.Page page) =
    (is_allowed head.cfg t.rights access ≡ true) × (may_serve head.version access t ≡ true)
    × (page ≡ t.frame + la % 2 ^ t.key.shift)
Answers head access la t (outcomes.Fault code) =
    (is_allowed head.cfg t.rights access ≡ false)
    × (code ≡ fault_code head.cfg access causes.Denied)

-- a word that the walk could read now is absent or reserved, and gives the code
abbrev pub Faults : Head → State → ℕ → ℕ → Kind → Cause → AccessKind → Outcome → Type 0
Faults head s p la kind cause access outcome =
    (level : Level) × (from : Parent) × MayRead s p la level from
    × (kind_of head.cfg level (entry_now s la level from) ≡ kind)
    × (outcome ≡ outcomes.Fault (fault_code head.cfg access cause))

-- an access may come to this. None wants an entry that is only present
abbrev pub HasOutcome : Head → State → ℕ → ℕ → AccessKind → Outcome → Want → Type 0
HasOutcome head s p la access outcome wants.Leaf =
    (t : Translation) × IsIn t (s.translations p) × (is_usable (s.control p) la t ≡ true)
    × Answers head access la t outcome
HasOutcome head s p la access outcome wants.Absent =
    Faults head s p la kinds.Absent causes.Absent access outcome
HasOutcome head s p la access outcome wants.Reserved =
    Faults head s p la kinds.Reserved causes.Reserved access outcome
HasOutcome head s p la access outcome wants.Present = ⊥

-- an assist may come: the word is one that the walk could read now, present and with no reserved
-- bit, and where it is to be dirty a leaf whose rights allow the access (4.8)
abbrev pub MayAssist : Head → State → ℕ → ℕ → AccessKind → ℕ → Bool → Type 0
MayAssist head s p la access word with_dirty =
    (level : Level) × (from : Parent) × MayRead s p la level from
    × (word ≡ entry_address from.table level la)
    × (is_wanted wants.Present (kind_of head.cfg level (entry_now s la level from)) ≡ true)
    × ((not with_dirty || may_dirty head.cfg access (joined from.rights (entry_now s la level from))
    (kind_of head.cfg level (entry_now s la level from))) ≡ true)

-- an event may come
abbrev pub MayCome : Head → State → Event → Type 0
MayCome head s (events.Write p addr value) = Unit {0}
MayCome head s (events.Access p flags la outcome moments) =
    HasOutcome head s p la (access_kind flags) outcome (want_of outcome)
MayCome head s (events.Assist p flags la word moments) =
    MayAssist head s p la (access_kind flags) word (says_dirty flags)
MayCome head s (events.MovCr3 p operand) = Unit {0}
MayCome head s (events.Invlpg p la) = Unit {0}
MayCome head s (events.Invpcid p kind pcid la) = Unit {0}
MayCome head s (events.MovCr4Pge p on) = Unit {0}

abbrev pub HasMember : State → ℕ → Member → Type 0
HasMember s p (members.Structure x) = IsIn x (s.structures p)
HasMember s p (members.Translation x) = IsIn x (s.translations p)

-- a step may be taken
abbrev pub MayTake : Head → State → Step → Type 0
MayTake head s (Fill4 p la) = FindsTable head s p la Four (root_of (s.control p))
MayTake head s (Fill3 p la from) = FindsTable head s p la Three from
MayTake head s (Fill2 p la from) = FindsTable head s p la Two from
MayTake head s (FillLeaf p la level from) = FindsLeaf head s p la level from
MayTake head s (Drop p member) = HasMember s p member
MayTake head s (Do e) = (broken_rule head e ≡ None) × MayCome head s e

-- what a processor has is changed, and what the others have is not
abbrev pub changed_at : {X : Type 0} → ℕ → (X → X) → (ℕ → X) → ℕ → X
changed_at p change old q = if q == p then change (old q) else old q

abbrev pub with_structure : State → ℕ → Structure → State
with_structure s p x = record s { structures = changed_at p (λ xs. x ∷ xs) s.structures }

abbrev pub with_translation : State → ℕ → Translation → State
with_translation s p x = record s { translations = changed_at p (λ xs. x ∷ xs) s.translations }

-- the state with the table that a level gives
abbrev pub with_table : Head → State → ℕ → ℕ → Level → Parent → State
with_table head s p la level from =
    let entry = entry_now s la level from in
    let to : Parent = record {
      table = table_of head.cfg.m entry;
      rights = joined from.rights entry;
    } in
    with_structure s p (structure_at s p la level to)

-- the translation that an entry of this kind gives
abbrev pub translation_at : Control → ℕ → Rights → ℕ → Kind → Option Translation
translation_at c la rights entry (kinds.Leaf frame shift global_bit) = Some (record {
  key = translation_key c.pcid shift (global_bit && c.pge) la;
  frame = frame;
  rights = rights;
  dirty = dirty entry;
})
translation_at c la rights entry (kinds.Table addr) = None
translation_at c la rights entry kinds.Absent = None
translation_at c la rights entry kinds.Reserved = None

abbrev pub with_leaf : State → ℕ → Option Translation → State
with_leaf s p None = s
with_leaf s p (Some t) = with_translation s p t

-- the state after an event
abbrev pub after_event : Head → State → Event → State
after_event head s e = record {
  memory = λ a. written a (s.memory a) e;
  control = λ p. controlled head.cfg.m p (s.control p) e;
  structures = λ p.
      filter
      (λ x. not (processor_of e == p
      && must_drop_structure head.cfg.rules (s.control p) e x.key))
      (s.structures p);
  translations = λ p.
      filter
      (λ x. not (processor_of e == p
      && must_drop_translation head.cfg.rules (s.control p) e x.key))
      (s.translations p);
}

abbrev pub same_rights : Rights → Rights → Bool
same_rights a b =
    not (xor a.write b.write) && not (xor a.user b.user) && not (xor a.xd b.xd)

abbrev pub same_structure : Structure → Structure → Bool
same_structure a b =
    a.key.pcid == b.key.pcid && level_shift a.key.level == level_shift b.key.level
    && a.key.prefix == b.key.prefix && a.table == b.table && same_rights a.rights b.rights

abbrev pub same_translation : Translation → Translation → Bool
same_translation a b =
    a.key.pcid == b.key.pcid && a.key.shift == b.key.shift && a.key.number == b.key.number
    && not (xor a.key.global b.key.global) && a.frame == b.frame
    && same_rights a.rights b.rights && not (xor a.dirty b.dirty)

-- the state without a member: as a set it is gone, however often the list had it
abbrev pub without : State → ℕ → Member → State
without s p (members.Structure x) = record s {
  structures = changed_at p (filter (λ y. not (same_structure x y))) s.structures;
}
without s p (members.Translation x) = record s {
  translations = changed_at p (filter (λ y. not (same_translation x y))) s.translations;
}

-- the state after a step
abbrev pub after : Head → State → Step → State
after head s (Fill4 p la) = with_table head s p la Four (root_of (s.control p))
after head s (Fill3 p la from) = with_table head s p la Three from
after head s (Fill2 p la from) = with_table head s p la Two from
after head s (FillLeaf p la level from) =
    let entry = entry_now s la level from in
    with_leaf s p
    (translation_at (s.control p) la (joined from.rights entry) entry
    (kind_of head.cfg level entry))
after head s (Drop p member) = without s p member
after head s (Do e) = after_event head s e

-- the steps may be taken, one after another
abbrev pub RunsFrom : Head → State → List Step → Type 0
RunsFrom head s [] = Unit {0}
RunsFrom head s (step ∷ steps) =
    MayTake head s step × RunsFrom head (after head s step) steps

abbrev pub IsRun : Head → List Step → Type 0
IsRun head steps = RunsFrom head (start head) steps

-- the events of a run
abbrev pub visible : List Step → List Event
visible [] = []
visible (Do e ∷ steps) = e ∷ visible steps
visible (Fill4 p la ∷ steps) = visible steps
visible (Fill3 p la from ∷ steps) = visible steps
visible (Fill2 p la from ∷ steps) = visible steps
visible (FillLeaf p la level from ∷ steps) = visible steps
visible (Drop p member ∷ steps) = visible steps
