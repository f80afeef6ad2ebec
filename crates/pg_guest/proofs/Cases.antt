-- What a turn of an access can be.
use Rattle.std.proofs.Common.{ℕ, ◌+◌, ◌*◌, Bool, List, [], ◌∷◌, ◌++◌, length, Option, Some, None}
use Rattle.std.proofs.lemmas.Bool.{cond_both}
use Rattle.pg_entry.specs.declared.AccessKind.{AccessKind}
use Rattle.pg_entry.specs.declared.Cause.TheVariants as causes
use Rattle.pg_entry.specs.declared.Kind.{Kind}
use Rattle.pg_entry.specs.declared.Kind.TheVariants as kinds
use Rattle.pg_entry.specs.declared.Level.{Level}
use Rattle.pg_entry.specs.declared.Level.TheVariants.{Four}
use Rattle.pg_entry.specs.declared.Rights.{Rights}
use Rattle.pg_entry.specs.Kinds.{kind_of}
use Rattle.pg_entry.specs.Permission.{fault_code}
use Rattle.pg_event.specs.declared.event.Event.TheVariants as events
use Rattle.pg_event.specs.declared.event.Outcome.{Outcome}
use Rattle.pg_event.specs.declared.event.Outcome.TheVariants as outcomes
use Rattle.pg_event.specs.Form.{access_kind, flags_of}
use Rattle.pg_event.specs.Spelling.{bit}
use Rattle.pg_event.specs.Walk.{below, entry_address, root_of}
use Rattle.pg_event.specs.declared.walk.Parent.{Parent}
use Rattle.pg_shadow.specs.declared.entries.Found.{Found}
use Rattle.pg_shadow.specs.declared.entries.Found.TheVariants.{Hit, Partial, Miss}
use Rattle.pg_shadow.specs.Caches.{Caches}
use Rattle.pg_world.specs.declared.walk.LevelRead.TheVariants.{Entry, Assisted}
use Rattle.pg_world.specs.declared.walk.Walk.{Walk}
use Rattle.pg_world.specs.Recording.{Recording, receipt_of}
use Rattle.pg_world.specs.Walks.{address_of, word_now, moments_now, moments_of, lacks_dirty, lacks_flags, assist_of, used_entry, found_entry}
use Rattle.pg_guest.specs.Turn.{Processor, Turned, done, carried_out, assisted, has_read, keeps, after_read, goes_on}

-- what holds of the turns of an access, whichever it is
pub record IsAny (P : Turned → Type 0) (p : ℕ) (r : Recording) (x : Processor) (flags la : ℕ) : Type 0 where
  pub hit : (outcome : Outcome) (moments : List ℕ) → P (carried_out r x (events.Access p flags la outcome moments))
  pub fault : (code : ℕ) (moments : List ℕ) → P (done r x (receipt_of r.events (events.Access p (flags_of (access_kind flags)) la (outcomes.Fault code) moments)))
  pub assist : (way : Found) (bits word : ℕ) (moments : List ℕ) → P (assisted r x way (receipt_of r.events (events.Assist p bits la word moments)))
  pub read : (level : Level) (way : Found) (caches : Caches) → P (has_read r x level way caches)

keeps_any : (P : Turned → Type 0) (r : Recording) (x : Processor) (walk : Walk) (value : ℕ) (moments : List ℕ) → ((level : Level) (way : Found) (caches : Caches) → P (has_read r x level way caches)) →
    (k : Kind) → P (keeps r x walk value moments k)
keeps_any P r x walk value moments read kinds.Absent = read _ _ _
keeps_any P r x walk value moments read kinds.Reserved = read _ _ _
keeps_any P r x walk value moments read (kinds.Table addr) = read _ _ _
keeps_any P r x walk value moments read (kinds.Leaf frame shift g) = read _ _ _

-- a walk of an access, wherever it reads
abbrev walk_in : AccessKind → ℕ → Level → ℕ → Rights → Option (List ℕ) → Walk
walk_in kind la level table rights ms = record { la = la; kind = kind; level = level; table = table; rights = rights; moments = ms }

used_any : (P : Turned → Type 0) (p : ℕ) (r : Recording) (x : Processor) (flags la : ℕ) → IsAny P p r x flags la → (way : Found) (level : Level) (table : ℕ) (rights : Rights) (ms : Option (List ℕ)) →
    let walk : Walk = walk_in (access_kind flags) la level table rights ms in
    (value : ℕ) (k : Kind) → P (after_read r x way walk (used_entry r.head r.events p walk value k))
used_any P p r x flags la any way level table rights ms value k =
    let walk : Walk = walk_in (access_kind flags) la level table rights ms in
    let d : Bool = lacks_dirty r.head.cfg walk value k in
    cond_both (lacks_flags r.head walk value k) (Assisted (receipt_of r.events (assist_of r.events p walk d))) (Entry value (length r.events)) (λ read. P (after_read r x way walk read))
    (λ lacks. any.assist way (flags_of walk.kind + 16 * bit d) (address_of walk) (moments_now r.events walk))
    (λ none. keeps_any P r x walk value (moments_of ms ++ length r.events ∷ []) any.read (kind_of r.head.cfg level value))

read_any : (P : Turned → Type 0) (p : ℕ) (r : Recording) (x : Processor) (flags la : ℕ) → IsAny P p r x flags la → (way : Found) (level : Level) (table : ℕ) (rights : Rights) (ms : Option (List ℕ)) →
    let walk : Walk = walk_in (access_kind flags) la level table rights ms in
    (value : ℕ) (k : Kind) → P (after_read r x way walk (found_entry r.head r.events p walk value k))
read_any P p r x flags la any way level table rights ms value kinds.Absent =
    any.fault (fault_code r.head.cfg (access_kind flags) causes.Absent) (moments_of ms ++ length r.events ∷ [])
read_any P p r x flags la any way level table rights ms value kinds.Reserved =
    any.fault (fault_code r.head.cfg (access_kind flags) causes.Reserved) (moments_of ms ++ length r.events ∷ [])
read_any P p r x flags la any way level table rights ms value (kinds.Table addr) = used_any P p r x flags la any way level table rights ms value (kinds.Table addr)
read_any P p r x flags la any way level table rights ms value (kinds.Leaf frame shift g) = used_any P p r x flags la any way level table rights ms value (kinds.Leaf frame shift g)

pub goes_on_any : (P : Turned → Type 0) (p : ℕ) (r : Recording) (x : Processor) (flags la : ℕ) → IsAny P p r x flags la → (way : Found) → P (goes_on p r x flags la way)
goes_on_any P p r x flags la any (Hit frame shift rights global moments) = any.hit _ moments
goes_on_any P p r x flags la any (Partial level table rights moments) =
    read_any P p r x flags la any (Partial level table rights moments) (below level) table rights (Some moments) _ (kind_of r.head.cfg (below level) (word_now r.events (entry_address table (below level) la)))
goes_on_any P p r x flags la any Miss =
    let root : Parent = root_of x.caches.control in
    read_any P p r x flags la any Miss Four root.table root.rights None _ (kind_of r.head.cfg Four (word_now r.events (entry_address root.table Four la)))
