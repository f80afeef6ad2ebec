-- What the stepper computes over its lists, step by step as its code does. No public contract cites
-- it: that these are the steps of the machine is proved above it.
use Rattle.std.specs.Prelude.{◌≡◌, ℕ, ◌+◌, ◌%◌, ◌^◌, Bool, true, false, not, ◌&&◌, ◌||◌, ◌==◌}
use Rattle.std.specs.Prelude.{nat_lt, if◌then◌else◌, List, [], ◌∷◌, ◌++◌, length, filter, slice_set}
use Rattle.std.specs.Prelude.{Option, Some, None}
use Rattle.std.specs.List.{list_any}
use Rattle.pg_entry.specs.declared.AccessKind.{AccessKind}
use Rattle.pg_entry.specs.declared.Level.{Level}
use Rattle.pg_entry.specs.declared.Level.TheVariants.{Four, Three, Two, One}
use Rattle.pg_entry.specs.declared.Rights.{Rights}
use Rattle.pg_entry.specs.declared.Cause.{Cause}
use Rattle.pg_entry.specs.declared.Cause.TheVariants as causes
use Rattle.pg_entry.specs.declared.Cfg.{Cfg}
use Rattle.pg_entry.specs.Kinds.{kind_of, marked, table_of}
use Rattle.pg_entry.specs.Permission.{all_rights, joined, is_allowed, fault_code}
use Rattle.pg_event.specs.declared.event.Event.{Event}
use Rattle.pg_event.specs.declared.event.Malformed.{Malformed}
use Rattle.pg_event.specs.declared.event.Outcome.{Outcome}
use Rattle.pg_event.specs.declared.event.Outcome.TheVariants.{Page, Fault}
use Rattle.pg_event.specs.declared.event.Want.{Want}
use Rattle.pg_event.specs.declared.event.Want.TheVariants as wants
use Rattle.pg_event.specs.declared.control.Control.{Control}
use Rattle.pg_event.specs.declared.meaning.Request.{Request}
use Rattle.pg_event.specs.declared.meaning.Request.TheVariants as requests
use Rattle.pg_event.specs.declared.meaning.MemoryChange.{MemoryChange}
use Rattle.pg_event.specs.declared.meaning.MemoryChange.TheVariants as changes
use Rattle.pg_event.specs.declared.invalidation.Invalidation.{Invalidation}
use Rattle.pg_event.specs.Meaning.{request_of, change_of, takes_structure, takes_translation}
use Rattle.pg_event.specs.declared.walk.Parent.{Parent}
use Rattle.pg_event.specs.Heads.{Head}
use Rattle.pg_event.specs.Form.{processor_of, is_canonical, broken_rule}
use Rattle.pg_event.specs.Values.{loaded, controlled}
use Rattle.pg_event.specs.Invalidation.{structure_key, structure_matches, must_drop_structure}
use Rattle.pg_event.specs.Invalidation.{must_drop_translation}
use Rattle.pg_event.specs.Walk.{below, entry_address, root_of}
use Rattle.pg_event.specs.Wants.{want_of, is_wanted, is_table, is_leaf, may_dirty}
use Rattle.pg_machine.specs.declared.sought.Sought.{Sought}
use Rattle.pg_machine.specs.declared.sought.Sought.TheVariants as soughts
use Rattle.pg_machine.specs.declared.step.Structure.{Structure}
use Rattle.pg_machine.specs.declared.step.Translation.{Translation}
use Rattle.pg_machine.specs.declared.step.Member.{Member}
use Rattle.pg_machine.specs.declared.step.Member.TheVariants as members
use Rattle.pg_machine.specs.declared.step.Step.{Step}
use Rattle.pg_machine.specs.declared.step.Step.TheVariants.{Fill4, Fill3, Fill2, FillLeaf, Drop, Do}
use Rattle.pg_machine.specs.declared.stuck.Stuck.{Stuck}
use Rattle.pg_machine.specs.declared.stuck.Stuck.TheVariants as stucks
use Rattle.pg_machine.specs.Listed.{ProcessorState, Listed, value_at, processor_at}
use Rattle.pg_machine.specs.Machine.{same_rights, same_structure, same_translation, is_usable}
use Rattle.pg_machine.specs.Machine.{may_cache, may_serve, translation_at}

-- the structure entry by which a level gives this table for an address
abbrev pub leading_entry : ℕ → ℕ → Level → Parent → Structure
leading_entry pcid la level from = record {
  key = structure_key pcid level la;
  table = from.table;
  rights = from.rights;
}

abbrev pub has_structure : ProcessorState → Structure → Bool
has_structure processor x = list_any (same_structure x) processor.structures

abbrev pub has_translation : ProcessorState → Translation → Bool
has_translation processor x = list_any (same_translation x) processor.translations

abbrev pub is_root : Control → Parent → Bool
is_root c from = from.table == c.root && same_rights from.rights all_rights

-- whether a structure entry leads a walk for an address from a level to a table
abbrev pub leads : ProcessorState → ℕ → Level → Parent → Bool
leads processor la level from =
    has_structure processor (leading_entry processor.control.pcid la level from)

-- whether a walk for an address may go on in a table
abbrev pub may_read : ProcessorState → ℕ → Level → Parent → Bool
may_read processor la Four from = is_root processor.control from
may_read processor la Three from = leads processor la Four from
may_read processor la Two from = leads processor la Three from
may_read processor la One from = leads processor la Two from

abbrev pub has_member : ProcessorState → Member → Bool
has_member processor (members.Structure x) = has_structure processor x
has_member processor (members.Translation x) = has_translation processor x

abbrev pub without_member : ProcessorState → Member → ProcessorState
without_member processor (members.Structure x) = record processor {
  structures = filter (λ y. not (same_structure x y)) processor.structures;
}
without_member processor (members.Translation x) = record processor {
  translations = filter (λ y. not (same_translation x y)) processor.translations;
}

-- whether the entry that a level has in a table at this address is what is sought
abbrev pub is_sought_at : Cfg → Sought → ℕ → Level → Rights → ℕ → Bool
is_sought_at cfg (soughts.Entry want) address level rights entry =
    is_wanted want (kind_of cfg level entry)
is_sought_at cfg (soughts.Word access word with_dirty) address level rights entry =
    word == address && is_wanted wants.Present (kind_of cfg level entry)
    && (not with_dirty || may_dirty cfg access (joined rights entry) (kind_of cfg level entry))

-- whether the entry that a level has for an address in a table is
abbrev pub is_sought : Cfg → List (ℕ × ℕ) → ℕ → Sought → Level → Parent → Bool
is_sought cfg writes la sought level from =
    let address = entry_address from.table level la in
    is_sought_at cfg sought address level from.rights (value_at writes address)

-- the level of a structure entry is one that leads to a table
abbrev pub is_leading : Level → Bool
is_leading Four = true
is_leading Three = true
is_leading Two = true
is_leading One = false

-- whether a structure entry leads to such an entry
abbrev pub leads_to_sought : Cfg → List (ℕ × ℕ) → ℕ → Sought → ℕ → Structure → Bool
leads_to_sought cfg writes la sought pcid x =
    let to : Parent = record { table = x.table; rights = x.rights } in
    is_leading x.key.level && x.key.pcid == pcid && structure_matches x.key la
    && is_sought cfg writes la sought (below x.key.level) to

-- whether some entry that the walk may read is what is sought
abbrev pub finds : Cfg → List (ℕ × ℕ) → ProcessorState → ℕ → Sought → Bool
finds cfg writes processor la sought =
    is_sought cfg writes la sought Four (root_of processor.control)
    || list_any (leads_to_sought cfg writes la sought processor.control.pcid) processor.structures

-- whether a translation answers an access so
abbrev pub answers : Head → AccessKind → ℕ → Outcome → Translation → Bool
answers head access la (Page page) t =
    is_allowed head.cfg t.rights access && may_serve head.version access t
    && page == t.frame + la % 2 ^ t.key.shift
answers head access la (Fault code) t =
    not (is_allowed head.cfg t.rights access) && code == fault_code head.cfg access causes.Denied

-- whether a translation may be used for an access and answers it so
abbrev pub gives : Head → Control → ℕ → AccessKind → Outcome → Translation → Bool
gives head control la access outcome t = is_usable control la t && answers head access la outcome t

abbrev pub has_answer : Head → ProcessorState → AccessKind → ℕ → Outcome → Bool
has_answer head processor access la outcome =
    list_any (λ t. gives head processor.control la access outcome t) processor.translations

abbrev pub faults_by : Cfg → AccessKind → Cause → Outcome → Bool
faults_by cfg access cause (Page page) = false
faults_by cfg access cause (Fault code) = code == fault_code cfg access cause

-- whether an access may come to this
abbrev pub has_outcome : Head → List (ℕ × ℕ) → ProcessorState → AccessKind → ℕ → Outcome → Want →
    Bool
has_outcome head writes processor access la outcome wants.Leaf =
    has_answer head processor access la outcome
has_outcome head writes processor access la outcome wants.Absent =
    faults_by head.cfg access causes.Absent outcome
    && finds head.cfg writes processor la (soughts.Entry wants.Absent)
has_outcome head writes processor access la outcome wants.Reserved =
    faults_by head.cfg access causes.Reserved outcome
    && finds head.cfg writes processor la (soughts.Entry wants.Reserved)
has_outcome head writes processor access la outcome wants.Present = false

-- what a processor has without what an invalidation takes out
abbrev pub without_taken : Invalidation → ProcessorState → ProcessorState
without_taken by processor = record processor {
  structures = filter (λ x. not (takes_structure by x.key)) processor.structures;
  translations = filter (λ x. not (takes_translation by x.key)) processor.translations;
}

-- what the processor of an event has after it
abbrev pub processor_after : Cfg → Event → ProcessorState → ProcessorState
processor_after cfg e processor = record {
  control = controlled cfg.m (processor_of e) processor.control e;
  structures =
      filter (λ x. not (must_drop_structure cfg.rules processor.control e x.key))
      processor.structures;
  translations =
      filter (λ x. not (must_drop_translation cfg.rules processor.control e x.key))
      processor.translations;
}

-- the entry that a fill reads
abbrev pub entry_of : Listed → ℕ → Level → Parent → ℕ
entry_of l la level from = value_at l.writes (entry_address from.table level la)

-- why a fill may not keep what it reads
abbrev pub unusable : Listed → ℕ → ℕ → Level → Parent → Option Stuck
unusable l p la level from =
    if not (nat_lt p (length l.head.processors) && is_canonical la) then Some stucks.Processor else
    if not (may_read (processor_at l.processors p) la level from) then Some stucks.Source else
    if not (may_cache l.head.version (entry_of l la level from)) then Some stucks.Kind else None

abbrev pub unless_kind : Option Stuck → Bool → Option Stuck
unless_kind None right = if right then None else Some stucks.Kind
unless_kind (Some stuck) right = Some stuck

-- why a fill cannot be made
abbrev pub stuck_table : Listed → ℕ → ℕ → Level → Parent → Option Stuck
stuck_table l p la level from =
    unless_kind (unusable l p la level from)
    (is_table (kind_of l.head.cfg level (entry_of l la level from)))

abbrev pub stuck_leaf : Listed → ℕ → ℕ → Level → Parent → Option Stuck
stuck_leaf l p la level from =
    unless_kind (unusable l p la level from)
    (is_leaf (kind_of l.head.cfg level (entry_of l la level from)))

abbrev pub stuck_drop : Listed → ℕ → Member → Option Stuck
stuck_drop l p member =
    if not (nat_lt p (length l.head.processors)) then Some stucks.Processor else
    if not (has_member (processor_at l.processors p) member) then Some stucks.Member else None

abbrev pub lacking : Want → Stuck
lacking wants.Leaf = stucks.Translation
lacking wants.Absent = stucks.Entry
lacking wants.Reserved = stucks.Entry
lacking wants.Present = stucks.Entry

-- why an access cannot come to its outcome
abbrev pub stuck_access : Listed → ℕ → AccessKind → ℕ → Outcome → Option Stuck
stuck_access l p access la outcome =
    let processor = processor_at l.processors p in
    if has_outcome l.head l.writes processor access la outcome (want_of outcome) then None
    else Some (lacking (want_of outcome))

-- why an assist cannot come
abbrev pub stuck_assist : Listed → ℕ → ℕ → Sought → Option Stuck
stuck_assist l p la sought =
    if finds l.head.cfg l.writes (processor_at l.processors p) la sought then None
    else Some stucks.Entry

-- why what is asked of a walk of p cannot come
abbrev pub stuck_request : Listed → ℕ → Request → Option Stuck
stuck_request l p requests.Nothing = None
stuck_request l p (requests.Access kind la outcome moments) = stuck_access l p kind la outcome
stuck_request l p (requests.Update kind la word dirty moments) =
    stuck_assist l p la (soughts.Word kind word dirty)

-- why a well formed event cannot come
abbrev pub stuck_coming : Listed → Event → Option Stuck
stuck_coming l e = stuck_request l (processor_of e) (request_of e)

abbrev pub unless_malformed : Option Malformed → Option Stuck → Option Stuck
unless_malformed None stuck = stuck
unless_malformed (Some rule) stuck = Some (stucks.Malformed rule)

abbrev pub stuck_event : Listed → Event → Option Stuck
stuck_event l e = unless_malformed (broken_rule l.head e) (stuck_coming l e)

-- the table that a walk of p starts in
abbrev pub root_at : Listed → ℕ → Parent
root_at l p = root_of (processor_at l.processors p).control

-- why a step cannot be taken
abbrev pub stuck_step : Listed → Step → Option Stuck
stuck_step l (Fill4 p la) = stuck_table l p la Four (root_at l p)
stuck_step l (Fill3 p la from) = stuck_table l p la Three from
stuck_step l (Fill2 p la from) = stuck_table l p la Two from
stuck_step l (FillLeaf p la level from) = stuck_leaf l p la level from
stuck_step l (Drop p member) = stuck_drop l p member
stuck_step l (Do e) = stuck_event l e

-- what a processor has at the start of a run
abbrev pub started_processor : ℕ → ℕ × Bool → ProcessorState
started_processor m start =
    record { control = loaded m start.0 start.1; structures = []; translations = [] }

abbrev pub with_processor : Listed → ℕ → ProcessorState → Listed
with_processor l p processor = record l { processors = slice_set l.processors p processor }

abbrev pub with_structure_first : ProcessorState → Structure → ProcessorState
with_structure_first processor x = record processor { structures = x ∷ processor.structures }

abbrev pub with_translation_first : ProcessorState → Option Translation → ProcessorState
with_translation_first processor None = processor
with_translation_first processor (Some x) =
    record processor { translations = x ∷ processor.translations }

-- the structure entry that a fill makes of an entry
abbrev pub filled : ℕ → ℕ → ℕ → Level → Rights → ℕ → Structure
filled m pcid la level rights entry = record {
  key = structure_key pcid level la;
  table = table_of m entry;
  rights = joined rights entry;
}

abbrev pub next_table : Listed → ℕ → ℕ → Level → Parent → Listed
next_table l p la level from =
    let processor = processor_at l.processors p in
    let entry = entry_of l la level from in
    let x = filled l.head.cfg.m processor.control.pcid la level from.rights entry in
    with_processor l p (with_structure_first processor x)

abbrev pub next_leaf : Listed → ℕ → ℕ → Level → Parent → Listed
next_leaf l p la level from =
    let processor = processor_at l.processors p in
    let entry = entry_of l la level from in
    let kind = kind_of l.head.cfg level entry in
    let x = translation_at processor.control la (joined from.rights entry) entry kind in
    with_processor l p (with_translation_first processor x)

abbrev pub next_drop : Listed → ℕ → Member → Listed
next_drop l p member = with_processor l p (without_member (processor_at l.processors p) member)

-- flags are set in the word as it is then
abbrev pub writes_with : List (ℕ × ℕ) → MemoryChange → List (ℕ × ℕ)
writes_with writes changes.Nothing = writes
writes_with writes (changes.Value addr value) = writes ++ (addr, value) ∷ []
writes_with writes (changes.Flags addr dirty) =
    writes ++ (addr, marked dirty (value_at writes addr)) ∷ []

abbrev pub writes_after : List (ℕ × ℕ) → Event → List (ℕ × ℕ)
writes_after writes e = writes_with writes (change_of e)

abbrev pub next_event : Listed → Event → Listed
next_event l e =
    let p = processor_of e in
    let processor = processor_after l.head.cfg e (processor_at l.processors p) in
    with_processor (record l { writes = writes_after l.writes e }) p processor

-- the lists after a step
abbrev pub next_step : Listed → Step → Listed
next_step l (Fill4 p la) = next_table l p la Four (root_at l p)
next_step l (Fill3 p la from) = next_table l p la Three from
next_step l (Fill2 p la from) = next_table l p la Two from
next_step l (FillLeaf p la level from) = next_leaf l p la level from
next_step l (Drop p member) = next_drop l p member
next_step l (Do e) = next_event l e

-- an error is why a step is stuck, or out of memory for one that is not stuck and that adds
-- something
abbrev pub IsStuckBy : Bool → Option Stuck → Stuck → Type 0
IsStuckBy adds why stucks.Memory = (why ≡ None) × (adds ≡ true)
IsStuckBy adds why stuck = why ≡ Some stuck
