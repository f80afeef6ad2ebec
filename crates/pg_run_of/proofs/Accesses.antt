-- What holds of an access or an assist where no reason fails.
use Rattle.std.proofs.Common.{◌≡◌, ℕ, ◌+◌, ◌%◌, ◌^◌, Bool, List, ◌∷◌, refl, true, false, cond, not, ◌&&◌, ◌||◌, Option, Some, None}
use Rattle.pg_machine.specs.declared.step.Translation.{Translation}
use Rattle.std.proofs.lemmas.Bool.{eqb-true, ltb-true}
use Rattle.std.proofs.lemmas.Bool.{or_right}
use Rattle.std.specs.Option.{option_or}
use Rattle.pg_entry.specs.Bits.{has_bit}
use Rattle.pg_entry.specs.declared.Kind.TheVariants as kinds
use Rattle.pg_entry.specs.declared.AccessKind.{AccessKind}
use Rattle.pg_entry.specs.Kinds.{accessed, dirty, kind_of}
use Rattle.pg_event.specs.declared.event.Event.{Event}
use Rattle.pg_event.specs.declared.event.Event.TheVariants as events
use Rattle.pg_event.specs.declared.event.Outcome.{Outcome}
use Rattle.pg_event.specs.declared.event.Outcome.TheVariants.{Page, Fault}
use Rattle.pg_event.specs.declared.event.Reason.TheVariants as reasons
use Rattle.pg_event.specs.declared.event.Want.{Want}
use Rattle.pg_event.specs.declared.event.Want.TheVariants as wants
use Rattle.pg_event.specs.declared.version.Version.{Version}
use Rattle.pg_event.specs.declared.claim.Claim.{Claim}
use Rattle.pg_event.specs.declared.claim.Update.{Update}
use Rattle.pg_event.specs.Heads.{Head, judges_accessed}
use Rattle.pg_event.specs.Form.{broken_rule}
use Rattle.pg_event.specs.Walk.{Reading}
use Rattle.pg_event.specs.Wants.{is_wanted, uses_last, want_of}
use Rattle.pg_event.specs.Witness.{Asked, leads_to, last_or, is_in_order, is_one_context, structures_survive, tables_accessed, failing_walk, failing_leaf, failing_end, is_done_write, failing_flags, asked_by, failing_claim, is_updated, asked_of, failing_update}
use Rattle.pg_machine.specs.Machine.{Answers, IsWalkable}

-- a test that must hold
pub guard_none : {X : Type 0} (b : Bool) (x : X) (o : Option X) → cond (not b) (Some x) o ≡ None → (b ≡ true) × (o ≡ None)
guard_none true x o h = (refl, h)
guard_none false x o h = absurd (cc)

-- a test that must not hold
pub bar_none : {X : Type 0} (b : Bool) (x : X) (o : Option X) → cond b (Some x) o ≡ None → (b ≡ false) × (o ≡ None)
bar_none true x o h = absurd (cc)
bar_none false x o h = (refl, h)

pub last_none : {X : Type 0} (b : Bool) (x : X) → cond b None (Some x) ≡ None → b ≡ true
last_none true x h = refl
last_none false x h = absurd (cc)

or_none : {X : Type 0} (a b : Option X) → option_or a b ≡ None → (a ≡ None) × (b ≡ None)
or_none None b h = (refl, h)
or_none (Some x) b h = absurd (cc)

-- what an access wants of its last entry, by what that is
chosen_want : (b c : Bool) → cond b wants.Absent (cond c wants.Reserved wants.Leaf) ≡ wants.Present → ⊥
chosen_want true c h = cc
chosen_want false true h = cc
chosen_want false false h = cc

never_present : (outcome : Outcome) → want_of outcome ≡ wants.Present → ⊥
never_present (Page page) h = cc
never_present (Fault code) h = chosen_want (not (has_bit code 0)) (has_bit code 3) h

leaf_wanted : (want : Want) → (want ≡ wants.Present → ⊥) → (frame shift : ℕ) (g : Bool) → is_wanted want (kinds.Leaf frame shift g) ≡ true → want ≡ wants.Leaf
leaf_wanted wants.Leaf never frame shift g h = refl
leaf_wanted wants.Absent never frame shift g h = absurd (cc)
leaf_wanted wants.Reserved never frame shift g h = absurd (cc)
leaf_wanted wants.Present never frame shift g h = absurd (never refl)

no_table_wanted : (want : Want) → (want ≡ wants.Present → ⊥) → (addr : ℕ) → is_wanted want (kinds.Table addr) ≡ true → ⊥
no_table_wanted wants.Leaf never addr h = cc
no_table_wanted wants.Absent never addr h = cc
no_table_wanted wants.Reserved never addr h = cc
no_table_wanted wants.Present never addr h = never refl

pub wants_leaf : (outcome : Outcome) (frame shift : ℕ) (g : Bool) → is_wanted (want_of outcome) (kinds.Leaf frame shift g) ≡ true → want_of outcome ≡ wants.Leaf
wants_leaf outcome frame shift g h = leaf_wanted (want_of outcome) (never_present outcome) frame shift g h

pub wants_no_table : (outcome : Outcome) (addr : ℕ) → is_wanted (want_of outcome) (kinds.Table addr) ≡ true → ⊥
wants_no_table outcome addr h = no_table_wanted (want_of outcome) (never_present outcome) addr h

pub wants_absent : (want : Want) → is_wanted want kinds.Absent ≡ true → want ≡ wants.Absent
wants_absent wants.Leaf h = absurd (cc)
wants_absent wants.Absent h = refl
wants_absent wants.Reserved h = absurd (cc)
wants_absent wants.Present h = absurd (cc)

pub wants_reserved : (want : Want) → is_wanted want kinds.Reserved ≡ true → want ≡ wants.Reserved
wants_reserved wants.Leaf h = absurd (cc)
wants_reserved wants.Absent h = absurd (cc)
wants_reserved wants.Reserved h = refl
wants_reserved wants.Present h = absurd (cc)

-- a translation answers, if it was dirty for a write that was done
pub answers : (head : Head) (access : AccessKind) (la : ℕ) (t : Translation) (outcome : Outcome) →
    failing_leaf head.cfg access t.rights (t.frame + la % 2 ^ t.key.shift) outcome ≡ None →
    (not (judges_accessed head.version && is_done_write access outcome) || t.dirty) ≡ true → Answers head access la t outcome
answers head access la t (Page page) h serves =
    let parts = guard_none _ _ _ h in
    (parts.0, serves, eqb-true _ _ (last_none _ _ parts.1))
answers head access la t (Fault code) h serves =
    let parts = bar_none _ _ _ h in
    (parts.0, eqb-true _ _ (last_none _ _ parts.1))

-- a well-formed access or assist is of a processor that is there, at a canonical address
pub access_inside : (head : Head) (p flags la : ℕ) (outcome : Outcome) (ws : List ℕ) → broken_rule head (events.Access p flags la outcome ws) ≡ None → IsWalkable head p la
access_inside head p flags la outcome ws h =
    let there = guard_none _ _ _ h in
    let canonical = guard_none _ _ _ there.1 in
    (ltb-true _ _ there.0, canonical.0)

pub assist_inside : (head : Head) (p flags la word : ℕ) (ws : List ℕ) → broken_rule head (events.Assist p flags la word ws) ≡ None → IsWalkable head p la
assist_inside head p flags la word ws h =
    let there = guard_none _ _ _ h in
    let aligned = guard_none _ _ _ there.1 in
    let canonical = guard_none _ _ _ aligned.1 in
    (ltb-true _ _ there.0, canonical.0)

-- what holds where no reason of a walk fails
pub record WalkHolds (head : Head) (all : List Event) (a : Asked) (pcid : ℕ) (ws : List ℕ) (rs : List Reading) : Type 0 where
  pub order : is_in_order ws a.number ≡ true
  pub kinds : leads_to head.cfg a.want rs ≡ true
  pub alike : is_one_context head all a.p pcid ws ≡ true
  pub kept : structures_survive head all a.p pcid a.la rs ≡ true

walk_holds : (head : Head) (all : List Event) (a : Asked) (pcid : ℕ) (ws : List ℕ) (rs : List Reading) →
    failing_walk head all a pcid ws rs ≡ None → WalkHolds head all a pcid ws rs
walk_holds head all a pcid ws rs h =
    let one = guard_none (is_in_order ws a.number) reasons.Order _ h in
    let two = guard_none (leads_to head.cfg a.want rs) reasons.Entry _ one.1 in
    let three = guard_none (is_one_context head all a.p pcid ws) reasons.Context _ two.1 in
    let four = guard_none (structures_survive head all a.p pcid a.la rs) reasons.StructureDropped _ three.1 in
    record { order = one.0; kinds = two.0; alike = three.0; kept = four.0 }

-- the tables of a walk have A, where that is judged
abbrev pub AreCached : Version → List Reading → Type 0
AreCached version rs = (not (judges_accessed version) || tables_accessed rs) ≡ true

-- what holds of the flags: A of the tables and of a leaf that is used, and D of the leaf of a write
pub record FlagsHold (version : Version) (c : Claim) (above : Bool) (value : ℕ) : Type 0 where
  pub tables : (not (judges_accessed version) || above) ≡ true
  pub leaf : (not (judges_accessed version) || (not (uses_last (want_of c.outcome)) || accessed value)) ≡ true
  pub write : (not (judges_accessed version && is_done_write c.kind c.outcome) || dirty value) ≡ true

flag_parts : (judged tables used write is_dirty : Bool) →
    cond (not judged) None (cond (not (tables && used)) (Some reasons.Accessed) (cond (write && not is_dirty) (Some reasons.Dirty) None)) ≡ None →
    ((not judged || tables) ≡ true) × ((not judged || used) ≡ true) × ((not (judged && write) || is_dirty) ≡ true)
flag_parts false tables used write is_dirty h = (refl, refl, refl)
flag_parts true false used write is_dirty h = absurd (cc)
flag_parts true true false write is_dirty h = absurd (cc)
flag_parts true true true true false h = absurd (cc)
flag_parts true true true true true h = (refl, refl, refl)
flag_parts true true true false is_dirty h = (refl, refl, refl)

flags_hold : (version : Version) (c : Claim) (above : Bool) (value : ℕ) → failing_flags version c above value ≡ None → FlagsHold version c above value
flags_hold version c above value h =
    let parts = flag_parts (judges_accessed version) above (not (uses_last (want_of c.outcome)) || accessed value) (is_done_write c.kind c.outcome) (dirty value) h in
    record { tables = parts.0; leaf = parts.1; write = parts.2 }

-- what holds of an access
pub record ClaimHolds (head : Head) (all : List Event) (c : Claim) (pcid : ℕ) (ws : List ℕ) (r : Reading) (rs : List Reading) : Type 0 where
  pub walk : WalkHolds head all (asked_by c) pcid ws (r ∷ rs)
  pub ends : failing_end head all c pcid (last_or r rs) (kind_of head.cfg (last_or r rs).level (last_or r rs).value) ≡ None
  pub flags : FlagsHold head.version c (tables_accessed (r ∷ rs)) (last_or r rs).value

pub claim_holds : (head : Head) (all : List Event) (c : Claim) (pcid : ℕ) (ws : List ℕ) (r : Reading) (rs : List Reading) →
    failing_claim head all c pcid ws (r ∷ rs) ≡ None → ClaimHolds head all c pcid ws r rs
claim_holds head all c pcid ws r rs h =
    let one = or_none (failing_walk head all (asked_by c) pcid ws (r ∷ rs)) _ h in
    let two = or_none (failing_end head all c pcid (last_or r rs) (kind_of head.cfg (last_or r rs).level (last_or r rs).value)) _ one.1 in
    record { walk = walk_holds head all (asked_by c) pcid ws (r ∷ rs) one.0; ends = two.0; flags = flags_hold head.version c (tables_accessed (r ∷ rs)) (last_or r rs).value two.1 }

-- what holds of an assist
pub record UpdateHolds (head : Head) (all : List Event) (u : Update) (pcid : ℕ) (ws : List ℕ) (r : Reading) (rs : List Reading) : Type 0 where
  pub walk : WalkHolds head all (asked_of u) pcid ws (r ∷ rs)
  pub tables : AreCached head.version (r ∷ rs)
  pub updated : is_updated head.cfg u (last_or r rs) ≡ true

pub update_holds : (head : Head) (all : List Event) (u : Update) (pcid : ℕ) (ws : List ℕ) (r : Reading) (rs : List Reading) →
    failing_update head all u pcid ws (r ∷ rs) ≡ None → UpdateHolds head all u pcid ws r rs
update_holds head all u pcid ws r rs h =
    let one = or_none (failing_walk head all (asked_of u) pcid ws (r ∷ rs)) _ h in
    let two = guard_none (tables_accessed (r ∷ rs)) reasons.Accessed _ one.1 in
    record { walk = walk_holds head all (asked_of u) pcid ws (r ∷ rs) one.0; tables = or_right (not (judges_accessed head.version)) (tables_accessed (r ∷ rs)) two.0; updated = last_none _ _ two.1 }
