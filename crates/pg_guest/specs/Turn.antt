-- The turns of a recorded processor. One turn makes one step of the walk of an access, or carries
-- an instruction out, and it records one event at most.
use Rattle.std.specs.Prelude.{◌≡◌, ℕ, ◌+◌, ◌%◌, ◌^◌, ◌<◌, Bool, ◌&&◌, ◌⊎◌, if◌then◌else◌}
use Rattle.std.specs.Prelude.{List, [], ◌∷◌, ◌++◌, length, Option, Some, None, slice_get}
use Rattle.pg_entry.specs.declared.AccessKind.{AccessKind}
use Rattle.pg_entry.specs.declared.Cause.TheVariants as causes
use Rattle.pg_entry.specs.declared.Cfg.{Cfg}
use Rattle.pg_entry.specs.declared.Kind.{Kind}
use Rattle.pg_entry.specs.declared.Kind.TheVariants as kinds
use Rattle.pg_entry.specs.declared.Level.{Level}
use Rattle.pg_entry.specs.declared.Level.TheVariants.{Four}
use Rattle.pg_entry.specs.declared.Rights.{Rights}
use Rattle.pg_entry.specs.Kinds.{dirty, kind_of}
use Rattle.pg_entry.specs.Permission.{joined, is_allowed, fault_code}
use Rattle.pg_event.specs.declared.control.Control.{Control}
use Rattle.pg_event.specs.declared.event.Event.{Event}
use Rattle.pg_event.specs.declared.event.Event.TheVariants as events
use Rattle.pg_event.specs.declared.event.Outcome.{Outcome}
use Rattle.pg_event.specs.declared.event.Outcome.TheVariants as outcomes
use Rattle.pg_event.specs.Form.{access_kind}
use Rattle.pg_event.specs.Heads.{Head}
use Rattle.pg_event.specs.Invalidation.{structure_key, translation_key}
use Rattle.pg_event.specs.Values.{started}
use Rattle.pg_event.specs.Walk.{below, root_of}
use Rattle.pg_guest.specs.declared.instruction.Instruction.{Instruction}
use Rattle.pg_guest.specs.declared.instruction.Instruction.TheVariants.{Write, Access, MovCr3}
use Rattle.pg_guest.specs.declared.instruction.Instruction.TheVariants.{Invlpg, Invpcid}
use Rattle.pg_guest.specs.declared.instruction.Instruction.TheVariants.{MovCr4Pge}
use Rattle.pg_shadow.specs.declared.entries.Found.{Found}
use Rattle.pg_shadow.specs.declared.entries.Found.TheVariants.{Hit, Partial, Miss}
use Rattle.pg_shadow.specs.declared.entries.KeptLeaf.{KeptLeaf}
use Rattle.pg_shadow.specs.declared.entries.KeptTable.{KeptTable}
use Rattle.pg_shadow.specs.Caches.{Caches, empty, with_table, with_leaf, after}
use Rattle.pg_shadow.specs.Find.{found}
use Rattle.pg_world.specs.declared.receipt.Receipt.{Receipt}
use Rattle.pg_world.specs.declared.walk.LevelRead.{LevelRead}
use Rattle.pg_world.specs.declared.walk.LevelRead.TheVariants.{Entry, Fault, Assisted}
use Rattle.pg_world.specs.declared.walk.Walk.{Walk}
use Rattle.pg_world.specs.Recording.{Recording, receipt_of, with_event, is_full}
use Rattle.pg_world.specs.Walks.{moments_of, found_in}
use Rattle.pg_guest.specs.declared.advance.Advance.{Advance}
use Rattle.pg_guest.specs.declared.advance.Advance.TheVariants as answers
use Rattle.pg_guest.specs.declared.advance.Stop.{Stop}
use Rattle.pg_guest.specs.declared.advance.Stop.TheVariants as stops

-- a processor: its instructions, the number of the next one, the walk under way for it, the
-- receipts of its events, and what it caches. The walk has come to a page, a hit; or to a table, a
-- partial one; or it has not begun, a miss
pub record Processor : Type 0 where
  pub instructions : List Instruction
  pub place : ℕ
  pub way : Found
  pub transcript : List Receipt
  pub caches : Caches

-- what a turn answers, and the record and the processor that it leaves
pub record Turned : Type 0 where
  pub answer : Advance
  pub world : Recording
  pub processor : Processor

-- a processor before its first instruction
abbrev pub fresh : Head → ℕ → List Instruction → Processor
fresh head p instructions = record {
  instructions = instructions;
  place = 0;
  way = Miss;
  transcript = [];
  caches = empty head.cfg.m (started head.cfg.m (slice_get head.processors p));
}

-- ---- what a turn records

-- an event is recorded, and what it must drop goes (Intel SDM, vol. 3, 4.10.4.1)
abbrev pub with_receipt : Receipt → Processor → Processor
with_receipt receipt x = record x {
  transcript = x.transcript ++ receipt ∷ [];
  caches = after receipt.event x.caches;
}

-- with this event the instruction is carried out
abbrev pub done : Recording → Processor → Receipt → Turned
done r x receipt = record {
  answer = answers.Done receipt;
  world = with_event r receipt.event;
  processor = record (with_receipt receipt x) { place = x.place + 1; way = Miss };
}

-- an event of an instruction that reads nothing
abbrev pub carried_out : Recording → Processor → Event → Turned
carried_out r x e = done r x (receipt_of r.events e)

-- this assist sets flags of the entry that the walk reads next: it goes on from where it stands
abbrev pub assisted : Recording → Processor → Found → Receipt → Turned
assisted r x way receipt = record {
  answer = answers.Assisted receipt;
  world = with_event r receipt.event;
  processor = record (with_receipt receipt x) { way = way };
}

-- ---- what a turn reads

-- a level was read, the walk has come so far, and what it came to is kept
abbrev pub has_read : Recording → Processor → Level → Found → Caches → Turned
has_read r x level way caches = record {
  answer = answers.Read level;
  world = r;
  processor = record x { way = way; caches = caches };
}

-- a walk has come to this table, which is kept under the present PCID (4.10.3)
abbrev pub has_table : Recording → Processor → Walk → KeptTable → Turned
has_table r x walk kept =
    let key = structure_key x.caches.control.pcid walk.level walk.la in
    has_read r x walk.level (Partial walk.level kept.table kept.rights kept.moments)
    (with_table key kept x.caches)

-- a walk has come to this page, which is kept so, or for all PCIDs (4.10.2)
abbrev pub has_page : Recording → Processor → Walk → ℕ → Bool → KeptLeaf → Turned
has_page r x walk shift global_bit kept =
    let global = global_bit && x.caches.control.pge in
    let key = translation_key x.caches.control.pcid shift global walk.la in
    has_read r x walk.level (Hit kept.frame shift kept.rights global kept.moments)
    (with_leaf key kept x.caches)

-- an entry of this kind and value was read: its table or its page is kept. No other entry is given
-- to be used
abbrev pub keeps : Recording → Processor → Walk → ℕ → List ℕ → Kind → Turned
keeps r x walk value moments (kinds.Table addr) = has_table r x walk (record {
  table = addr;
  rights = joined walk.rights value;
  moments = moments;
})
keeps r x walk value moments (kinds.Leaf frame shift global_bit) =
    has_page r x walk shift global_bit (record {
      frame = frame;
      rights = joined walk.rights value;
      dirty = dirty value;
      moments = moments;
    })
keeps r x walk value moments kinds.Absent = has_read r x walk.level x.way x.caches
keeps r x walk value moments kinds.Reserved = has_read r x walk.level x.way x.caches

-- what the read of a level came to, of a walk that stands here
abbrev pub after_read : Recording → Processor → Found → Walk → LevelRead → Turned
after_read r x way walk (Entry value moment) =
    keeps r x walk value (moments_of walk.moments ++ moment ∷ [])
    (kind_of r.head.cfg walk.level value)
after_read r x way walk (Fault receipt) = done r x receipt
after_read r x way walk (Assisted receipt) = assisted r x way receipt

-- p reads a level
abbrev pub reads : ℕ → Recording → Processor → Found → Walk → Turned
reads p r x way walk = after_read r x way walk (found_in r p walk)

-- ---- the steps of an access

-- a walk that is to read level 4, in the root
abbrev pub from_root : Control → AccessKind → ℕ → Walk
from_root c kind la = record {
  la = la;
  kind = kind;
  level = Four;
  table = (root_of c).table;
  rights = (root_of c).rights;
  moments = None;
}

-- a walk that is to read the level below this one, in a table
abbrev pub from_table : AccessKind → ℕ → Level → ℕ → Rights → List ℕ → Walk
from_table kind la level table rights moments = record {
  la = la;
  kind = kind;
  level = below level;
  table = table;
  rights = rights;
  moments = Some moments;
}

-- what an access comes to where a page was found for it (4.6, 4.7)
abbrev pub outcome_of : Cfg → AccessKind → Rights → ℕ → Outcome
outcome_of cfg kind rights address =
    if is_allowed cfg rights kind then outcomes.Page address
    else outcomes.Fault (fault_code cfg kind causes.Denied)

-- an access of p goes on from where its walk stands
abbrev pub goes_on : ℕ → Recording → Processor → ℕ → ℕ → Found → Turned
goes_on p r x flags la (Hit frame shift rights global moments) =
    let outcome = outcome_of r.head.cfg (access_kind flags) rights (frame + la % 2 ^ shift) in
    carried_out r x (events.Access p flags la outcome moments)
goes_on p r x flags la (Partial level table rights moments) =
    reads p r x (Partial level table rights moments)
    (from_table (access_kind flags) la level table rights moments)
goes_on p r x flags la Miss =
    reads p r x Miss (from_root x.caches.control (access_kind flags) la)

-- a walk that has not begun begins with what the processor caches
abbrev pub begun : Head → Caches → ℕ → AccessKind → Found → Found
begun head s la kind (Hit frame shift rights global moments) =
    Hit frame shift rights global moments
begun head s la kind (Partial level table rights moments) = Partial level table rights moments
begun head s la kind Miss = found s la head kind

-- ---- a turn

-- what a turn of p with this instruction comes to, where it is not stopped
abbrev pub turned_by : ℕ → Recording → Processor → Option Instruction → Turned
turned_by p r x None = record { answer = answers.Ended; world = r; processor = x }
turned_by p r x (Some (Write addr value)) = carried_out r x (events.Write p addr value)
turned_by p r x (Some (Access flags la)) =
    goes_on p r x flags la (begun r.head x.caches la (access_kind flags) x.way)
turned_by p r x (Some (MovCr3 operand)) = carried_out r x (events.MovCr3 p operand)
turned_by p r x (Some (Invlpg la)) = carried_out r x (events.Invlpg p la)
turned_by p r x (Some (Invpcid kind pcid la)) = carried_out r x (events.Invpcid p kind pcid la)
turned_by p r x (Some (MovCr4Pge on)) = carried_out r x (events.MovCr4Pge p on)

abbrev pub turned : ℕ → Recording → Processor → Turned
turned p r x = turned_by p r x (slice_get x.instructions x.place)

-- a turn that is stopped records nothing and gives the walk up
abbrev pub stopped : Stop → Recording → Processor → Turned
stopped why r x = record {
  answer = answers.Stopped why;
  world = r;
  processor = record x { way = Miss };
}

-- why a record refuses an event more: it is full, or it is finished
abbrev pub refused_event : Recording → Option Stop
refused_event r =
    if is_full r then Some stops.Full else
    if r.finished then Some stops.Finished else None

-- why a record refuses what a turn comes to: one event more where it is full, anything where it is
-- finished. A processor that has ended asks for nothing
abbrev pub refused_by : Recording → Advance → Option Stop
refused_by r (answers.Read level) = if r.finished then Some stops.Finished else None
refused_by r (answers.Assisted receipt) = refused_event r
refused_by r (answers.Done receipt) = refused_event r
refused_by r answers.Ended = None
refused_by r (answers.Stopped why) = None

-- memory may be refused at any time; else it is the reason for which the record refuses
abbrev pub MayStop : Recording → Advance → Stop → Type 0
MayStop r due why = (why ≡ stops.Memory) ⊎ (refused_by r due ≡ Some why)

-- a turn that would come to this was stopped
pub record IsStopped (r : Recording) (x : Processor) (due t : Turned) : Type 0 where
  pub why : Stop
  pub may : MayStop r due.answer why
  pub next : x.place < length x.instructions
  pub is : t ≡ stopped why r x

-- a turn came to what it would, and the record took it
pub record IsMet (r : Recording) (due t : Turned) : Type 0 where
  pub granted : refused_by r due.answer ≡ None
  pub is : t ≡ due

-- a turn is stopped, or comes to this
abbrev pub ComesTo : Recording → Processor → Turned → Turned → Type 0
ComesTo r x due t = IsStopped r x due t ⊎ IsMet r due t

-- a turn of p from a record and a processor
abbrev pub IsTurn : ℕ → Recording → Processor → Turned → Type 0
IsTurn p r x t = ComesTo r x (turned p r x) t
