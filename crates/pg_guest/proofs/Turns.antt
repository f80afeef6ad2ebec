-- A turn keeps the record accepted and every processor at home.
use Rattle.std.proofs.Common.{◌≡◌, ℕ, ◌+◌, ◌%◌, ◌^◌, Bool, List, [], ◌∷◌, ◌++◌, length, refl, ap, sym, ◌∙◌, subst, true, false, not, cond, ◌&&◌, ◌||◌, Option, Some, None, inl, inr}
use Rattle.std.specs.Prelude.{slice_get}
use Rattle.std.proofs.lemmas.Bool.{ne_eqb, and_parts, cond_both}
use Rattle.pg_entry.specs.declared.AccessKind.{AccessKind}
use Rattle.pg_entry.specs.declared.Cause.TheVariants as causes
use Rattle.pg_entry.specs.declared.Kind.{Kind}
use Rattle.pg_entry.specs.declared.Kind.TheVariants as kinds
use Rattle.pg_entry.specs.declared.Rights.{Rights}
use Rattle.pg_entry.specs.Kinds.{kind_of, accessed, dirty}
use Rattle.pg_entry.specs.Permission.{joined, is_write, is_allowed, fault_code}
use Rattle.pg_event.specs.declared.control.Control.{Control}
use Rattle.pg_event.specs.declared.event.Event.{Event}
use Rattle.pg_event.specs.declared.event.Event.TheVariants as events
use Rattle.pg_event.specs.declared.event.Outcome.{Outcome}
use Rattle.pg_event.specs.declared.event.Outcome.TheVariants as outcomes
use Rattle.pg_event.specs.declared.event.Want.TheVariants as wants
use Rattle.pg_event.specs.declared.keys.StructureKey.{StructureKey}
use Rattle.pg_event.specs.declared.keys.TranslationKey.{TranslationKey}
use Rattle.pg_event.specs.Form.{processor_of, access_kind, flags_of}
use Rattle.pg_event.specs.Heads.{Head, judges_accessed, may_cache}
use Rattle.pg_event.specs.Invalidation.{structure_key, translation_key}
use Rattle.pg_event.specs.Values.{control_at}
use Rattle.pg_event.specs.Walk.{below}
use Rattle.pg_event.specs.Wants.{is_wanted, may_dirty}
use Rattle.pg_event.specs.Witness.{Accepted, failing_event, failing_access, failing_assist}
use Rattle.pg_guest.specs.declared.instruction.Instruction.{Instruction}
use Rattle.pg_guest.specs.declared.instruction.Instruction.TheVariants.{Write, Access, MovCr3, Invlpg, Invpcid, MovCr4Pge}
use Rattle.pg_shadow.specs.declared.entries.Found.{Found}
use Rattle.pg_shadow.specs.declared.entries.Found.TheVariants.{Hit, Partial, Miss}
use Rattle.pg_shadow.specs.declared.entries.KeptLeaf.{KeptLeaf}
use Rattle.pg_shadow.specs.declared.entries.KeptTable.{KeptTable}
use Rattle.pg_shadow.specs.Caches.{Caches, with_table, with_leaf, after}
use Rattle.pg_shadow.specs.Find.{found, IsHit, IsFound}
use Rattle.pg_shadow.proofs.Lookups.{IsFound-found}
use Rattle.pg_world.specs.declared.walk.LevelRead.TheVariants.{Entry, Assisted}
use Rattle.pg_world.specs.declared.walk.Walk.{Walk}
use Rattle.pg_world.specs.Recording.{Recording, receipt_of, with_event}
use Rattle.pg_world.specs.Walks.{moments_of, address_of, lacks_dirty, lacks_flags, assist_of, used_entry, found_entry}
use Rattle.pg_event.proofs.Flags.{flags_are_told}
use Rattle.pg_guest.specs.Turn.{Processor, Turned, fresh, done, assisted, keeps, after_read, goes_on, begun, turned_by, stopped, outcome_of, IsTurn}
use Rattle.pg_guest.specs.Home.{WalkPosition, at_root, word_at, IsUnderWay, IsUnderWayFor, AreSound, HasSoundCaches}
use Rattle.pg_guest.specs.Laws.{GrowsByOne, KeepsOthers, TurnsKeepHome, OthersStayAtHome, FreshAreAtHome}
use Rattle.pg_guest.proofs.Entries.{size_is}
use Rattle.pg_guest.proofs.Hits.{hit_witnesses}
use Rattle.pg_guest.proofs.Keys.{structure_self, translation_self}
use Rattle.pg_guest.proofs.Positions.{Comes, comes_at_root, comes_in_table, table_now, leaf_now, absent_now, reserved_now, assist_now}
use Rattle.pg_guest.proofs.Pushed.{accepted_pushed}
use Rattle.pg_guest.proofs.Sound.{table_kept, leaf_kept, others_sound, own_sound}
use Rattle.pg_guest.proofs.AssistFlags.{assist_kind, assist_dirty}

-- ---- events

-- a walk that has not begun is under way for any instruction
begins : (head : Head) (s : Caches) (o : Option Instruction) → IsUnderWayFor head s Miss o
begins head s None = refl
begins head s (Some (Write addr value)) = refl
begins head s (Some (Access flags la)) = tt
begins head s (Some (MovCr3 operand)) = refl
begins head s (Some (Invlpg la)) = refl
begins head s (Some (Invpcid kind pcid la)) = refl
begins head s (Some (MovCr4Pge on)) = refl

pub others_stay_at_home : OthersStayAtHome
others_stay_at_home head es e q x other home = record {
  sound = others_sound head es e q x.caches (ne_eqb (processor_of e) q other) home.sound;
  way = home.way;
}

-- a turn keeps p and the others at home whatever was recorded before; and where that is accepted,
-- what is recorded then is too
record KeepsAnyway (p : ℕ) (old new : Recording) (x : Processor) : Type 0 where
  head : new.head ≡ old.head
  grows : GrowsByOne p old.events new.events
  accepted : Accepted old.head old.events → Accepted new.head new.events
  own : HasSoundCaches new.head new.events p x
  others : KeepsOthers p old new

abbrev Keeps : ℕ → Recording → Turned → Type 0
Keeps p r t = KeepsAnyway p r t.world t.processor

-- a witnessed event of p is recorded
recorded_keeps : (p : ℕ) (r : Recording) (x y : Processor) (e : Event) → HasSoundCaches r.head r.events p x → processor_of e ≡ p →
    failing_event r.head r.events (length r.events) e ≡ None → y.caches ≡ after e x.caches → IsUnderWayFor r.head y.caches y.way (slice_get y.instructions y.place) →
    KeepsAnyway p r (with_event r e) y
recorded_keeps p r x y e home own good caches way = record {
  head = refl;
  grows = inr (e, own, refl);
  accepted = λ accepted. accepted_pushed r.head r.events e accepted good;
  own = record {
    sound = subst (AreSound r.head (r.events ++ e ∷ []) p) (sym caches) (own_sound r.head r.events e p x.caches own home.sound);
    way = way;
  };
  others = λ q away z h. others_stay_at_home r.head r.events e q z (λ same. away (sym same ∙ own)) h;
}

-- the instruction is carried out
done_keeps : (p : ℕ) (r : Recording) (x : Processor) (e : Event) → HasSoundCaches r.head r.events p x → processor_of e ≡ p →
    failing_event r.head r.events (length r.events) e ≡ None → Keeps p r (done r x (receipt_of r.events e))
done_keeps p r x e home own good =
    recorded_keeps p r x (done r x (receipt_of r.events e)).processor e home own good refl (begins r.head (after e x.caches) (slice_get x.instructions (x.place + 1)))

-- nothing is recorded
quiet_keeps : (p : ℕ) (r : Recording) (y : Processor) → HasSoundCaches r.head r.events p y → KeepsAnyway p r r y
quiet_keeps p r y home = record { head = refl; grows = inl refl; accepted = λ accepted. accepted; own = home; others = λ q away x h. h }

-- ---- flags that an entry has

either_used : (judged has lacks : Bool) → (judged && (not has || lacks)) ≡ false → (not judged || has) ≡ true
either_used true true lacks h = refl
either_used true false lacks h = absurd (cc)
either_used false has lacks h = refl

-- an entry that lacks no flag may be used
may_use : (head : Head) (walk : Walk) (value : ℕ) (k : Kind) → lacks_flags head walk value k ≡ false → may_cache head.version value ≡ true
may_use head walk value k none = either_used (judges_accessed head.version) (accessed value) (lacks_dirty head.cfg walk value k) none

page_used : (judged has write d allowed : Bool) → (judged && (not has || (write && not d && allowed))) ≡ false → not (judged && write && allowed && not d) ≡ true
page_used false has write d allowed h = refl
page_used true has false d allowed h = refl
page_used true has true true true h = refl
page_used true has true true false h = refl
page_used true has true false false h = refl
page_used true true true false true h = absurd (cc)
page_used true false true false true h = absurd (cc)

set_where_allowed : (write d may : Bool) → (not (write && not d && may) || may) ≡ true
set_where_allowed write d true = or_true (not (write && not d && true))
  where
    or_true : (b : Bool) → (b || true) ≡ true
    or_true true = refl
    or_true false = refl
set_where_allowed write d false = none (write && not d)
  where
    none : (b : Bool) → (not (b && false) || false) ≡ true
    none true = refl
    none false = refl

-- ---- a level that is read

abbrev walk_at : AccessKind → ℕ → WalkPosition → Option (List ℕ) → Walk
walk_at kind la at ms = record { la = la; kind = kind; level = at.level; table = at.table; rights = at.rights; moments = ms }

-- an access of p is under way, at a position of its walk
record IsReading (p : ℕ) (r : Recording) (x : Processor) (flags la : ℕ) (way : Found) : Type 0 where
  home : HasSoundCaches r.head r.events p x
  instruction : slice_get x.instructions x.place ≡ Some (Access flags la)
  under : IsUnderWay r.head x.caches la (access_kind flags) way

own_pcid : (head : Head) (es : List Event) (p : ℕ) (s : Caches) → AreSound head es p s → (control_at head es p (length es)).pcid ≡ s.control.pcid
own_pcid head es p s all = ap (λ (c : Control). c.pcid) (sym all.control)

faults_keep : (p : ℕ) (r : Recording) (x : Processor) (flags la : ℕ) (way : Found) → IsReading p r x flags la way → (kind : AccessKind) (code : ℕ) (ws : List ℕ) →
    failing_access r.head r.events (record { number = length r.events; p = p; kind = kind; la = la; outcome = outcomes.Fault code }) ws ≡ None →
    Keeps p r (done r x (receipt_of r.events (events.Access p (flags_of kind) la (outcomes.Fault code) ws)))
faults_keep p r x flags la way reading kind code ws good =
    let n : ℕ = length r.events in
    done_keeps p r x (events.Access p (flags_of kind) la (outcomes.Fault code) ws) reading.home refl
    (ap (λ (k : AccessKind). failing_access r.head r.events (record { number = n; p = p; kind = k; la = la; outcome = outcomes.Fault code }) ws) (flags_are_told.kind kind) ∙ good)

-- a present entry: an assist, or what is kept of it
used_keeps : (p : ℕ) (r : Recording) (x : Processor) (flags la : ℕ) (way : Found) → IsReading p r x flags la way → (at : WalkPosition) (ms : Option (List ℕ)) →
    Comes r.head r.events p la x.caches.control.pcid at (moments_of ms) →
    let n = length r.events in
    let value = word_at r.events la at n in
    let walk : Walk = walk_at (access_kind flags) la at ms in
    (k : Kind) → kind_of r.head.cfg at.level value ≡ k → is_wanted wants.Present k ≡ true →
    (lacks_flags r.head walk value k ≡ false → Keeps p r (keeps r x walk value (moments_of ms ++ n ∷ []) k)) →
    Keeps p r (after_read r x way walk (used_entry r.head r.events p walk value k))
used_keeps p r x flags la way reading at ms comes k is present kept =
    let head : Head = r.head in
    let es : List Event = r.events in
    let n : ℕ = length es in
    let kind : AccessKind = access_kind flags in
    let value : ℕ = word_at es la at n in
    let walk : Walk = walk_at kind la at ms in
    let with_dirty : Bool = lacks_dirty head.cfg walk value k in
    let assist : Event = assist_of es p walk with_dirty in
    cond_both (lacks_flags head walk value k) (Assisted (receipt_of es assist)) (Entry value n) (λ read. Keeps p r (after_read r x way walk read))
    (λ lacks.
    let judged = and_parts (judges_accessed head.version) (not (accessed value) || with_dirty) lacks in
    let may : (not with_dirty || may_dirty head.cfg kind (joined at.rights value) (kind_of head.cfg at.level value)) ≡ true =
    ap (λ (l : Kind). not with_dirty || may_dirty head.cfg kind (joined at.rights value) l) is ∙ set_where_allowed (is_write kind.op) (dirty value) (may_dirty head.cfg kind (joined at.rights value) k) in
    let good : failing_event head es n assist ≡ None =
    (λ i. failing_assist head es (record { number = n; p = p; kind = assist_kind kind with_dirty i; la = la; word = address_of walk; dirty = assist_dirty kind with_dirty i }) (moments_of ms ++ n ∷ []))
    ∙ assist_now head es p la x.caches.control.pcid kind at (moments_of ms) with_dirty judged.0 (own_pcid head es p x.caches reading.home.sound) comes (ap (is_wanted wants.Present) is ∙ present) may in
    recorded_keeps p r x (assisted r x way (receipt_of es assist)).processor assist reading.home refl good refl
    (subst (λ o. IsUnderWayFor head x.caches way o) (sym reading.instruction) reading.under))
    (λ none. subst (λ (l : Kind). Keeps p r (keeps r x walk value (moments_of ms ++ n ∷ []) l)) (sym is) (kept none))

read_keeps : (p : ℕ) (r : Recording) (x : Processor) (flags la : ℕ) (way : Found) → IsReading p r x flags la way → (at : WalkPosition) (ms : Option (List ℕ)) →
    Comes r.head r.events p la x.caches.control.pcid at (moments_of ms) →
    let value = word_at r.events la at (length r.events) in
    let walk : Walk = walk_at (access_kind flags) la at ms in
    (k : Kind) → kind_of r.head.cfg at.level value ≡ k → Keeps p r (after_read r x way walk (found_entry r.head r.events p walk value k))
read_keeps p r x flags la way reading at ms comes kinds.Absent is =
    let kind : AccessKind = access_kind flags in
    faults_keep p r x flags la way reading kind (fault_code r.head.cfg kind causes.Absent) (moments_of ms ++ length r.events ∷ [])
    (absent_now r.head r.events p la x.caches.control.pcid kind at (moments_of ms) (own_pcid r.head r.events p x.caches reading.home.sound) comes is)
read_keeps p r x flags la way reading at ms comes kinds.Reserved is =
    let kind : AccessKind = access_kind flags in
    faults_keep p r x flags la way reading kind (fault_code r.head.cfg kind causes.Reserved) (moments_of ms ++ length r.events ∷ [])
    (reserved_now r.head r.events p la x.caches.control.pcid kind at (moments_of ms) (own_pcid r.head r.events p x.caches reading.home.sound) comes is)
read_keeps p r x flags la way reading at ms comes (kinds.Table addr) is =
    let n : ℕ = length r.events in
    let value : ℕ = word_at r.events la at n in
    let walk : Walk = walk_at (access_kind flags) la at ms in
    let key : StructureKey = structure_key x.caches.control.pcid at.level la in
    let kept : KeptTable = record { table = addr; rights = joined at.rights value; moments = moments_of ms ++ n ∷ [] } in
    used_keeps p r x flags la way reading at ms comes (kinds.Table addr) is refl (λ none.
    quiet_keeps p r _ (record {
      sound = table_kept r.head r.events p x.caches key kept reading.home.sound
          (table_now r.head r.events p la x.caches.control.pcid at (moments_of ms) (own_pcid r.head r.events p x.caches reading.home.sound) comes (may_use r.head walk value (kinds.Table addr) none) addr is);
      way = subst (λ o. IsUnderWayFor r.head (with_table key kept x.caches) (Partial at.level addr kept.rights kept.moments) o) (sym reading.instruction)
          (ap (λ b. cond b (Some kept) (x.caches.tables key)) (structure_self key));
    }))
read_keeps p r x flags la way reading at ms comes (kinds.Leaf frame shift g) is =
    let n : ℕ = length r.events in
    let kind : AccessKind = access_kind flags in
    let value : ℕ = word_at r.events la at n in
    let rights : Rights = joined at.rights value in
    let walk : Walk = walk_at kind la at ms in
    let c : Control = x.caches.control in
    let key : TranslationKey = translation_key c.pcid shift (g && c.pge) la in
    let kept : KeptLeaf = record { frame = frame; rights = rights; dirty = dirty value; moments = moments_of ms ++ n ∷ [] } in
    used_keeps p r x flags la way reading at ms comes (kinds.Leaf frame shift g) is refl (λ none.
    let hit : IsHit (with_leaf key kept x.caches) la r.head kind shift (g && c.pge) frame rights kept.moments = record {
      leaf = kept;
      kept = ap (λ b. cond b (Some kept) (x.caches.leaves key)) (translation_self key);
      usable = page_used (judges_accessed r.head.version) (accessed value) (is_write kind.op) (dirty value) (is_allowed r.head.cfg rights kind) none;
      size = size_is r.head.cfg at.level value frame shift g is;
      frame_is = refl;
      rights_are = refl;
      moments_are = refl;
    } in
    quiet_keeps p r _ (record {
      sound = leaf_kept r.head r.events p x.caches key kept reading.home.sound
          (leaf_now r.head r.events p la c at (moments_of ms) reading.home.sound.control comes (may_use r.head walk value (kinds.Leaf frame shift g) none) frame shift g is);
      way = subst (λ o. IsUnderWayFor r.head (with_leaf key kept x.caches) (Hit frame shift rights (g && c.pge) kept.moments) o) (sym reading.instruction) hit;
    }))

-- ---- an access

goes_on_keeps : (p : ℕ) (r : Recording) (x : Processor) (flags la : ℕ) (way : Found) → IsReading p r x flags la way → Keeps p r (goes_on p r x flags la way)
goes_on_keeps p r x flags la (Hit frame shift rights global moments) reading =
    let outcome : Outcome = outcome_of r.head.cfg (access_kind flags) rights (frame + la % 2 ^ shift) in
    done_keeps p r x (events.Access p flags la outcome moments) reading.home refl
    (hit_witnesses r.head r.events p la (access_kind flags) x.caches shift global frame rights moments reading.home.sound reading.under)
goes_on_keeps p r x flags la (Partial level table rights moments) reading =
    let kept : KeptTable = record { table = table; rights = rights; moments = moments } in
    let c : Control = x.caches.control in
    read_keeps p r x flags la (Partial level table rights moments) reading (record { level = below level; table = table; rights = rights }) (Some moments)
    (comes_in_table r.head r.events p la c.pcid level kept (reading.home.sound.tables (structure_key c.pcid level la) kept reading.under)) _ refl
goes_on_keeps p r x flags la Miss reading =
    let c : Control = x.caches.control in
    read_keeps p r x flags la Miss reading (at_root c) None (comes_at_root r.head r.events p la c.pcid c reading.home.sound.control) _ refl

found_under : (head : Head) (s : Caches) (la : ℕ) (kind : AccessKind) (way : Found) → IsFound s la head kind way → IsUnderWay head s la kind way
found_under head s la kind (Hit frame shift rights global moments) h = h
found_under head s la kind (Partial level table rights moments) h = h.0
found_under head s la kind Miss h = tt

pub begun_under : (head : Head) (s : Caches) (la : ℕ) (kind : AccessKind) (way : Found) → IsUnderWay head s la kind way → IsUnderWay head s la kind (begun head s la kind way)
begun_under head s la kind (Hit frame shift rights global moments) h = h
begun_under head s la kind (Partial level table rights moments) h = h
begun_under head s la kind Miss h = found_under head s la kind (found s la head kind) (IsFound-found s la head kind)

-- ---- a turn

turned_by_keeps : (p : ℕ) (r : Recording) (x : Processor) → HasSoundCaches r.head r.events p x →
    (o : Option Instruction) → slice_get x.instructions x.place ≡ o → Keeps p r (turned_by p r x o)
turned_by_keeps p r x home None at = quiet_keeps p r x home
turned_by_keeps p r x home (Some (Write addr value)) at = done_keeps p r x (events.Write p addr value) home refl refl
turned_by_keeps p r x home (Some (Access flags la)) at =
    goes_on_keeps p r x flags la (begun r.head x.caches la (access_kind flags) x.way) (record {
      home = home;
      instruction = at;
      under = begun_under r.head x.caches la (access_kind flags) x.way (subst (λ o. IsUnderWayFor r.head x.caches x.way o) at home.way);
    })
turned_by_keeps p r x home (Some (MovCr3 operand)) at = done_keeps p r x (events.MovCr3 p operand) home refl refl
turned_by_keeps p r x home (Some (Invlpg la)) at = done_keeps p r x (events.Invlpg p la) home refl refl
turned_by_keeps p r x home (Some (Invpcid kind pcid la)) at = done_keeps p r x (events.Invpcid p kind pcid la) home refl refl
turned_by_keeps p r x home (Some (MovCr4Pge on)) at = done_keeps p r x (events.MovCr4Pge p on) home refl refl

turn_keeps : (p : ℕ) (r : Recording) (x : Processor) (t : Turned) → HasSoundCaches r.head r.events p x → IsTurn p r x t → Keeps p r t
turn_keeps p r x t home (inl halt) =
    subst (Keeps p r) (sym halt.is)
    (quiet_keeps p r (stopped halt.why r x).processor (record { sound = home.sound; way = begins r.head x.caches (slice_get x.instructions x.place) }))
turn_keeps p r x t home (inr went) =
    subst (Keeps p r) (sym went.is) (turned_by_keeps p r x home (slice_get x.instructions x.place) refl)

-- a processor stays at home by its turn, whether the record is accepted or not
pub stays_at_home : (p : ℕ) (r : Recording) (x : Processor) (t : Turned) → HasSoundCaches r.head r.events p x → IsTurn p r x t → HasSoundCaches t.world.head t.world.events p t.processor
stays_at_home p r x t home turn = (turn_keeps p r x t home turn).own

pub turns_keep_home : TurnsKeepHome
turns_keep_home p r x t accepted home turn =
    let keeps = turn_keeps p r x t home turn in
    record { head = keeps.head; grows = keeps.grows; accepted = keeps.accepted accepted; own = keeps.own; others = keeps.others }

pub fresh_are_at_home : FreshAreAtHome
fresh_are_at_home head p instructions =
    let x : Processor = fresh head p instructions in record {
      sound = record {
        width = refl;
        control = refl;
        tables = λ key kept h. absurd (cc);
        leaves = λ key kept h. absurd (cc);
      };
      way = begins head x.caches (slice_get instructions 0);
    }
