-- What the read of a level records is well formed.
use Rattle.std.proofs.Common.{◌≡◌, ℕ, ◌+◌, ◌≤◌, ◌*◌, ◌/◌, ◌%◌, Bool, true, false, not, ◌&&◌, ◌||◌, nat_eq, nat_lt, cond, List, length, Option, Some, None, refl, sym, ◌∙◌, ap, subst, arith, ◌⊎◌, inl, inr}
use Rattle.std.specs.Option.{is_none}
use Rattle.pg_entry.specs.declared.Op.{Op}
use Rattle.pg_entry.specs.declared.Op.TheVariants as ops
use Rattle.pg_entry.specs.declared.AccessKind.{AccessKind}
use Rattle.pg_entry.specs.Permission.{is_write}
use Rattle.pg_event.specs.declared.version.Version.{Version}
use Rattle.pg_event.specs.declared.version.Version.TheVariants as versions
use Rattle.pg_event.specs.declared.event.Malformed.TheVariants as rules
use Rattle.pg_event.specs.declared.event.Event.{Event}
use Rattle.pg_event.specs.declared.event.Event.TheVariants as events
use Rattle.pg_event.specs.declared.event.Outcome.{Outcome}
use Rattle.pg_event.specs.declared.event.Outcome.TheVariants as outcomes
use Rattle.pg_event.specs.Heads.{Head, judges_accessed}
use Rattle.pg_event.specs.Form.{flags_of, is_canonical, is_word, breaks_assist}
use Rattle.pg_event.specs.Spelling.{bit}
use Rattle.pg_event.specs.Wants.{may_dirty}
use Rattle.std.proofs.lemmas.Bool.{cond_both}
use Rattle.pg_entry.specs.declared.Cause.{Cause}
use Rattle.pg_entry.specs.declared.Cause.TheVariants as causes
use Rattle.pg_entry.specs.declared.Kind.{Kind}
use Rattle.pg_entry.specs.declared.Kind.TheVariants as kinds
use Rattle.pg_entry.specs.Kinds.{accessed, dirty, kind_of}
use Rattle.pg_entry.specs.Permission.{joined, fault_code}
use Rattle.pg_world.specs.declared.error.WorldError.{WorldError}
use Rattle.pg_world.specs.declared.error.WorldError.TheVariants as errors
use Rattle.pg_world.specs.declared.receipt.Receipt.{Receipt}
use Rattle.pg_world.specs.declared.walk.Walk.{Walk}
use Rattle.pg_world.specs.declared.walk.LevelRead.{LevelRead}
use Rattle.pg_world.specs.declared.walk.LevelRead.TheVariants as founds
use Rattle.pg_world.specs.Recording.{Recording, receipt_of, is_well_formed, refusal, event_refusal, IsRefusedBy}
use Rattle.pg_world.specs.Walks.{is_walk, address_of, word_now, moments_now, lacks_dirty, lacks_flags, fault_of, assist_of, used_entry, found_entry, found_by, found_in, adds_event, read_refusal}
use Rattle.pg_world.proofs.Tables.{left_of, MayRead, may_read, entry-word}

-- ---- flags

abbrev bits : Op → Bool → Bool → ℕ
bits op user ac = let kind : AccessKind = record { op = op; user = user; ac = ac } in flags_of kind

access_bits : (op : Op) (user ac : Bool) →
    let flags = bits op user ac in
    (nat_eq (flags % 4) 3 || not (nat_eq (flags / 16) 0)) ≡ false
access_bits ops.Read false false = refl
access_bits ops.Read false true = refl
access_bits ops.Read true false = refl
access_bits ops.Read true true = refl
access_bits ops.Write false false = refl
access_bits ops.Write false true = refl
access_bits ops.Write true false = refl
access_bits ops.Write true true = refl
access_bits ops.Fetch false false = refl
access_bits ops.Fetch false true = refl
access_bits ops.Fetch true false = refl
access_bits ops.Fetch true true = refl

clean_bits : (op : Op) (user ac : Bool) → breaks_assist versions.Two (bits op user ac + 16 * bit false) ≡ false
clean_bits ops.Read false false = refl
clean_bits ops.Read false true = refl
clean_bits ops.Read true false = refl
clean_bits ops.Read true true = refl
clean_bits ops.Write false false = refl
clean_bits ops.Write false true = refl
clean_bits ops.Write true false = refl
clean_bits ops.Write true true = refl
clean_bits ops.Fetch false false = refl
clean_bits ops.Fetch false true = refl
clean_bits ops.Fetch true false = refl
clean_bits ops.Fetch true true = refl

dirty_bits : (op : Op) (user ac : Bool) → is_write op ≡ true → breaks_assist versions.Two (bits op user ac + 16 * bit true) ≡ false
dirty_bits ops.Read user ac h = absurd cc
dirty_bits ops.Write false false h = refl
dirty_bits ops.Write false true h = refl
dirty_bits ops.Write true false h = refl
dirty_bits ops.Write true true h = refl
dirty_bits ops.Fetch user ac h = absurd cc

assist_bits : (version : Version) (kind : AccessKind) (is_dirty : Bool) → judges_accessed version ≡ true → (is_dirty ≡ true → is_write kind.op ≡ true) →
    breaks_assist version (flags_of kind + 16 * bit is_dirty) ≡ false
assist_bits versions.One kind is_dirty h write = absurd cc
assist_bits versions.Two kind false h write = clean_bits kind.op kind.user kind.ac
assist_bits versions.Two kind true h write = dirty_bits kind.op kind.user kind.ac (write refl)

-- ---- events

unbroken : (processor word address flags : Bool) → processor ≡ true → word ≡ true → address ≡ true → flags ≡ false →
    is_none (cond (not processor) (Some rules.Processor) (cond (not word) (Some rules.WordAddress) (cond (not address) (Some rules.LinearAddress) (cond flags (Some rules.Flags) None)))) ≡ true
unbroken true true true false a b c d = refl
unbroken true true true true a b c d = absurd cc
unbroken true true false flags a b c d = absurd cc
unbroken true false address flags a b c d = absurd cc
unbroken false word address flags a b c d = absurd cc

pub access-formed : (head : Head) (p : ℕ) (kind : AccessKind) (la : ℕ) (outcome : Outcome) (moments : List ℕ) → nat_lt p (length head.processors) ≡ true → is_canonical la ≡ true →
    is_well_formed head (events.Access p (flags_of kind) la outcome moments) ≡ true
access-formed head p kind la outcome moments processor address =
    unbroken (nat_lt p (length head.processors)) true (is_canonical la) _ processor refl address (access_bits kind.op kind.user kind.ac)

pub assist-formed : (head : Head) (p : ℕ) (kind : AccessKind) (is_dirty : Bool) (la word : ℕ) (moments : List ℕ) → nat_lt p (length head.processors) ≡ true → is_canonical la ≡ true →
    is_word head.cfg.m word ≡ true → judges_accessed head.version ≡ true → (is_dirty ≡ true → is_write kind.op ≡ true) →
    is_well_formed head (events.Assist p (flags_of kind + 16 * bit is_dirty) la word moments) ≡ true
assist-formed head p kind is_dirty la word moments processor address within judged write =
    unbroken (nat_lt p (length head.processors)) (is_word head.cfg.m word) (is_canonical la) _ processor within address (assist_bits head.version kind is_dirty judged write)

-- ---- what is found

-- an event that was found is well formed
abbrev pub IsFormed : Head → LevelRead → Type 0
IsFormed head (founds.Entry value moment) = Unit {0}
IsFormed head (founds.Fault receipt) = is_well_formed head receipt.event ≡ true
IsFormed head (founds.Assisted receipt) = is_well_formed head receipt.event ≡ true

fault-formed : (head : Head) (es : List Event) (p : ℕ) (walk : Walk) (cause : Cause) → MayRead head p walk → is_well_formed head (fault_of head.cfg es p walk cause) ≡ true
fault-formed head es p walk cause may = access-formed head p walk.kind walk.la (outcomes.Fault (fault_code head.cfg walk.kind cause)) (moments_now es walk) may.processor may.address

used-formed : (head : Head) (es : List Event) (p : ℕ) (walk : Walk) (value : ℕ) (kind : Kind) → MayRead head p walk → is_word head.cfg.m (address_of walk) ≡ true →
    IsFormed head (used_entry head es p walk value kind)
used-formed head es p walk value kind may word =
    let is_dirty : Bool = lacks_dirty head.cfg walk value kind in
    let written : Bool = is_write walk.kind.op && not (dirty value) in
    cond_both (lacks_flags head walk value kind)
    (founds.Assisted (receipt_of es (assist_of es p walk is_dirty)))
    (founds.Entry value (length es))
    (IsFormed head)
    (λ lacks. assist-formed head p walk.kind is_dirty walk.la (address_of walk) (moments_now es walk) may.processor may.address word
    (left_of (judges_accessed head.version) (not (accessed value) || is_dirty) lacks)
    (λ set. left_of (is_write walk.kind.op) (not (dirty value)) (left_of written (may_dirty head.cfg walk.kind (joined walk.rights value) kind) set)))
    (λ _. tt)

entry-formed : (head : Head) (es : List Event) (p : ℕ) (walk : Walk) (value : ℕ) (kind : Kind) → MayRead head p walk → is_word head.cfg.m (address_of walk) ≡ true →
    IsFormed head (found_entry head es p walk value kind)
entry-formed head es p walk value kinds.Absent may word = fault-formed head es p walk causes.Absent may
entry-formed head es p walk value kinds.Reserved may word = fault-formed head es p walk causes.Reserved may
entry-formed head es p walk value (kinds.Table addr) may word = used-formed head es p walk value (kinds.Table addr) may word
entry-formed head es p walk value (kinds.Leaf frame shift global_bit) may word = used-formed head es p walk value (kinds.Leaf frame shift global_bit) may word

pub found-formed : (head : Head) (es : List Event) (p : ℕ) (walk : Walk) → 36 ≤ head.cfg.m → is_walk head p walk ≡ true → IsFormed head (found_by head es p walk)
found-formed head es p walk low h =
    let may = may_read head p walk h in
    let value : ℕ = word_now es (address_of walk) in
    entry-formed head es p walk value (kind_of head.cfg walk.level value) may
    (entry-word head.cfg.m walk.table walk.level walk.la (omega (arith, low)) may.table)

-- a read that found an event is refused as the event would be
pub record IsEventFound (r : Recording) (p : ℕ) (walk : Walk) (receipt : Receipt) : Type 0 where
  pub adds : adds_event (found_in r p walk) ≡ true
  pub refused : read_refusal r p walk ≡ event_refusal r receipt.event

event-found : (r : Recording) (p : ℕ) (walk : Walk) (receipt : Receipt) → is_walk r.head p walk ≡ true → adds_event (found_in r p walk) ≡ true →
    is_well_formed r.head receipt.event ≡ true → IsEventFound r p walk receipt
event-found r p walk receipt may adds formed = record {
  adds = adds;
  refused = ap (λ (b : Bool). refusal r b (adds_event (found_in r p walk))) may ∙ ap (refusal r true) adds ∙ sym (ap (λ (b : Bool). refusal r b true) formed);
}

pub found-event : (r : Recording) (p : ℕ) (walk : Walk) (found : LevelRead) (receipt : Receipt) → 36 ≤ r.head.cfg.m → is_walk r.head p walk ≡ true → found ≡ found_in r p walk →
    (found ≡ founds.Fault receipt) ⊎ (found ≡ founds.Assisted receipt) → IsEventFound r p walk receipt
found-event r p walk found receipt low may by (inl fault) =
    let e : found_in r p walk ≡ founds.Fault receipt = sym by ∙ fault in
    event-found r p walk receipt may (ap adds_event e) (subst (IsFormed r.head) e (found-formed r.head r.events p walk low may))
found-event r p walk found receipt low may by (inr assisted) =
    let e : found_in r p walk ≡ founds.Assisted receipt = sym by ∙ assisted in
    event-found r p walk receipt may (ap adds_event e) (subst (IsFormed r.head) e (found-formed r.head r.events p walk low may))

-- a read of an entry is refused in a finished record alone
pub entry-not_refused : (r : Recording) (p : ℕ) (walk : Walk) (value moment : ℕ) → is_walk r.head p walk ≡ true → found_in r p walk ≡ founds.Entry value moment →
    r.finished ≡ false → read_refusal r p walk ≡ None
entry-not_refused r p walk value moment may e unfinished =
    ap (λ (b : Bool). refusal r b (adds_event (found_in r p walk))) may ∙ ap (λ (f : LevelRead). refusal r true (adds_event f)) e
    ∙ ap (λ (b : Bool). cond b (Some errors.Finished) None) unfinished

pub IsRefusedBy-found : (r : Recording) (p : ℕ) (walk : Walk) (receipt : Receipt) (error : WorldError) → IsEventFound r p walk receipt →
    IsRefusedBy true (event_refusal r receipt.event) error → IsRefusedBy (adds_event (found_in r p walk)) (read_refusal r p walk) error
IsRefusedBy-found r p walk receipt error e refused =
    subst (λ (b : Bool). IsRefusedBy b (read_refusal r p walk) error) (sym e.adds)
    (subst (λ (o : Option WorldError). IsRefusedBy true o error) (sym e.refused) refused)
