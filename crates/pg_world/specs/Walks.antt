-- What the read of a level answers.
use Rattle.std.specs.Prelude.{ℕ, ◌+◌, ◌*◌, ◌%◌, ◌^◌, Bool, true, false, not, ◌&&◌, ◌||◌, ◌==◌}
use Rattle.std.specs.Prelude.{nat_lt, if◌then◌else◌, List, [], ◌∷◌, ◌++◌, length, Option, Some}
use Rattle.std.specs.Prelude.{None}
use Rattle.pg_entry.specs.declared.Cfg.{Cfg}
use Rattle.pg_entry.specs.declared.Cause.{Cause}
use Rattle.pg_entry.specs.declared.Cause.TheVariants as causes
use Rattle.pg_entry.specs.declared.Kind.{Kind}
use Rattle.pg_entry.specs.declared.Kind.TheVariants as kinds
use Rattle.pg_entry.specs.declared.Level.{Level}
use Rattle.pg_entry.specs.declared.Level.TheVariants.{Four, Three, Two, One}
use Rattle.pg_entry.specs.Kinds.{accessed, dirty, kind_of}
use Rattle.pg_entry.specs.Permission.{is_write, joined, fault_code}
use Rattle.pg_event.specs.declared.event.Event.{Event}
use Rattle.pg_event.specs.declared.event.Event.TheVariants as events
use Rattle.pg_event.specs.declared.event.Outcome.TheVariants as outcomes
use Rattle.pg_event.specs.Heads.{Head, judges_accessed}
use Rattle.pg_event.specs.Form.{is_canonical, flags_of}
use Rattle.pg_event.specs.Spelling.{bit}
use Rattle.pg_event.specs.Values.{mem_at}
use Rattle.pg_event.specs.Walk.{entry_address}
use Rattle.pg_event.specs.Wants.{may_dirty}
use Rattle.pg_world.specs.declared.error.WorldError.{WorldError}
use Rattle.pg_world.specs.declared.walk.Walk.{Walk}
use Rattle.pg_world.specs.declared.walk.LevelRead.{LevelRead}
use Rattle.pg_world.specs.declared.walk.LevelRead.TheVariants.{Entry, Fault, Assisted}
use Rattle.pg_world.specs.Recording.{Recording, receipt_of, with_event, refusal}

-- ---- the walk

-- how many levels a walk reads before this one
abbrev pub levels_above : Level → ℕ
levels_above Four = 0
levels_above Three = 1
levels_above Two = 2
levels_above One = 3

-- the moments of a walk that may not have begun
abbrev pub moments_of : Option (List ℕ) → List ℕ
moments_of None = []
moments_of (Some moments) = moments

-- the address of a paging structure: of 4,096 bytes, within MAXPHYADDR (Intel SDM, vol. 3, 4.5)
abbrev pub is_table_address : ℕ → ℕ → Bool
is_table_address m table = table % 4096 == 0 && nat_lt table (2 ^ m)

-- whether a walk of p may read: there is such a processor, the address is canonical, the table is
-- one, and there is a moment for each level above
abbrev pub is_walk : Head → ℕ → Walk → Bool
is_walk head p walk =
    nat_lt p (length head.processors) && is_canonical walk.la
    && is_table_address head.cfg.m walk.table
    && length (moments_of walk.moments) == levels_above walk.level

-- ---- what it reads

-- the address of the entry that the walk reads
abbrev pub address_of : Walk → ℕ
address_of walk = entry_address walk.table walk.level walk.la

-- the word at an address after these events
abbrev pub word_now : List Event → ℕ → ℕ
word_now es addr = mem_at es (length es) addr

-- the moments of the levels above, and the present one
abbrev pub moments_now : List Event → Walk → List ℕ
moments_now es walk = moments_of walk.moments ++ length es ∷ []

-- whether a page is to be written whose leaf has D = 0, by a write that the rights of the whole
-- walk allow (Intel SDM, vol. 3, 4.8)
abbrev pub lacks_dirty : Cfg → Walk → ℕ → Kind → Bool
lacks_dirty cfg walk value kind =
    is_write walk.kind.op && not (dirty value)
    && may_dirty cfg walk.kind (joined walk.rights value) kind

-- whether an entry has to be changed before it is used, in records that are judged by it: it has
-- A = 0, or lacks D
abbrev pub lacks_flags : Head → Walk → ℕ → Kind → Bool
lacks_flags head walk value kind =
    judges_accessed head.version
    && (not (accessed value) || lacks_dirty head.cfg walk value kind)

-- ---- what comes of it, after events

-- the fault of an access whose walk ends at an absent or reserved entry (4.7)
abbrev pub fault_of : Cfg → List Event → ℕ → Walk → Cause → Event
fault_of cfg es p walk cause = events.Access p (flags_of walk.kind) walk.la
    (outcomes.Fault (fault_code cfg walk.kind cause)) (moments_now es walk)

-- the assist that sets A in the entry and, where it is dirty, D
abbrev pub assist_of : List Event → ℕ → Walk → Bool → Event
assist_of es p walk is_dirty = events.Assist p (flags_of walk.kind + 16 * bit is_dirty) walk.la
    (address_of walk) (moments_now es walk)

-- an entry that is present and has no reserved bit set: it is used, or changed first
abbrev pub used_entry : Head → List Event → ℕ → Walk → ℕ → Kind → LevelRead
used_entry head es p walk value kind =
    if lacks_flags head walk value kind
    then Assisted (receipt_of es (assist_of es p walk (lacks_dirty head.cfg walk value kind)))
    else Entry value (length es)

-- what a read comes to, by the kind of the entry that it reads
abbrev pub found_entry : Head → List Event → ℕ → Walk → ℕ → Kind → LevelRead
found_entry head es p walk value kinds.Absent =
    Fault (receipt_of es (fault_of head.cfg es p walk causes.Absent))
found_entry head es p walk value kinds.Reserved =
    Fault (receipt_of es (fault_of head.cfg es p walk causes.Reserved))
found_entry head es p walk value (kinds.Table addr) =
    used_entry head es p walk value (kinds.Table addr)
found_entry head es p walk value (kinds.Leaf frame shift global_bit) =
    used_entry head es p walk value (kinds.Leaf frame shift global_bit)

-- what the read of a level by p comes to
abbrev pub found_by : Head → List Event → ℕ → Walk → LevelRead
found_by head es p walk =
    let value = word_now es (address_of walk) in
    found_entry head es p walk value (kind_of head.cfg walk.level value)

-- ---- what the call answers and leaves

abbrev pub found_in : Recording → ℕ → Walk → LevelRead
found_in r p walk = found_by r.head r.events p walk

-- whether what was found is an event
abbrev pub adds_event : LevelRead → Bool
adds_event (Entry value moment) = false
adds_event (Fault receipt) = true
adds_event (Assisted receipt) = true

-- the record after it
abbrev pub after_found : Recording → LevelRead → Recording
after_found r (Entry value moment) = r
after_found r (Fault receipt) = with_event r receipt.event
after_found r (Assisted receipt) = with_event r receipt.event

-- the least reason to refuse the read of a level by p, memory apart
abbrev pub read_refusal : Recording → ℕ → Walk → Option WorldError
read_refusal r p walk = refusal r (is_walk r.head p walk) (adds_event (found_in r p walk))
