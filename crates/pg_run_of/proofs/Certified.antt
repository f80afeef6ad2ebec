-- The moments of an access that comes in a run.
use Rattle.std.proofs.Common.{nat_lt, length, ◌≡◌, ℕ, ◌+◌, ◌%◌, ◌^◌, ◌<◌, ◌≤◌, ◌==◌, ◌||◌, ◌&&◌, Bool, List, [], ◌∷◌, ◌++◌, refl, ap, sym, ◌∙◌, true, false, not, arith, Option, Some, None, cond}
use Rattle.pg_event.specs.declared.control.Control.{Control}
use Rattle.pg_machine.specs.declared.step.Translation.{Translation}
use Rattle.std.proofs.lemmas.Bool.{and_from, and_parts, or_right, eq-eqb, eqb-true}
use Rattle.pg_entry.specs.declared.AccessKind.{AccessKind}
use Rattle.pg_entry.specs.declared.Level.{Level}
use Rattle.pg_entry.specs.declared.Kind.{Kind}
use Rattle.pg_entry.specs.declared.Kind.TheVariants as kinds
use Rattle.pg_entry.specs.declared.Cause.{Cause}
use Rattle.pg_entry.specs.declared.Cause.TheVariants as causes
use Rattle.pg_entry.specs.Kinds.{accessed, dirty, kind_of}
use Rattle.pg_entry.specs.Permission.{joined, fault_code}
use Rattle.pg_event.specs.declared.event.Event.{Event}
use Rattle.pg_event.specs.declared.event.Event.TheVariants.{Write, Access, Assist, MovCr3, Invlpg, Invpcid, MovCr4Pge}
use Rattle.pg_event.specs.declared.event.Outcome.{Outcome}
use Rattle.pg_event.specs.declared.event.Outcome.TheVariants.{Page, Fault}
use Rattle.pg_event.specs.declared.event.Want.{Want}
use Rattle.pg_event.specs.declared.event.Want.TheVariants as wants
use Rattle.pg_event.specs.declared.event.Malformed.TheVariants as rules
use Rattle.pg_event.specs.declared.version.Version.{Version}
use Rattle.pg_event.specs.declared.version.Version.TheVariants as versions
use Rattle.pg_event.specs.declared.claim.Claim.{Claim}
use Rattle.pg_event.specs.declared.claim.Update.{Update}
use Rattle.pg_event.specs.Heads.{Head, judges_accessed}
use Rattle.pg_event.specs.Form.{access_kind, says_dirty, is_canonical, is_word, breaks_assist, broken_rule}
use Rattle.pg_event.specs.Values.{mem_at, control_at}
use Rattle.pg_event.specs.Invalidation.{bits_from, translation_key, translation_matches}
use Rattle.pg_event.specs.declared.keys.TranslationKey.{TranslationKey}
use Rattle.pg_event.specs.Walk.{Reading, entry_address}
use Rattle.pg_event.specs.Wants.{is_wanted, may_dirty, uses_last, want_of}
use Rattle.pg_event.specs.Witness.{claim_of, update_of, failing_leaf, failing_fault, failing_end, is_done_write, failing_event, translation_survives}
use Rattle.pg_event.specs.declared.walk.Parent.{Parent}
use Rattle.pg_machine.specs.Machine.{State, Answers, Faults, HasOutcome, MayAssist, MayCome, entry_now}
use Rattle.pg_run_of.specs.Converse.{without_moments, HasMoments}
use Rattle.pg_run_of.proofs.Standing.{At, seen}
use Rattle.pg_run_of.proofs.Accesses.{guard_none, bar_none}
use Rattle.pg_run_of.proofs.Chains.{pass, reading_at, IsFlagged, access_none, assist_none, moments_fit}
use Rattle.pg_run_of.proofs.Kept.{Sound, chain}

-- the event with moments that witness it
pub record Certificate (head : Head) (all : List Event) (w : ℕ) (e : Event) : Type 0 where
  pub event : Event
  pub same : without_moments event ≡ without_moments e
  pub fits : HasMoments event
  pub good : failing_event head all w event ≡ None

pub bar : {X : Type 0} (b : Bool) (x : X) (o : Option X) → b ≡ false → o ≡ None → cond b (Some x) o ≡ None
bar false x o h k = k
bar true x o h k = absurd (cc)

pub last : {X : Type 0} (b : Bool) (x : X) → b ≡ true → cond b None (Some x) ≡ None
last true x h = refl
last false x h = absurd (cc)

pub foreign : (a b : Bool) → (a || b) ≡ true → (not a && not b) ≡ false
foreign true b h = refl
foreign false true h = refl
foreign false false h = absurd (cc)

answered : (head : Head) (access : AccessKind) (la : ℕ) (t : Translation) (outcome : Outcome) → Answers head access la t outcome →
    failing_leaf head.cfg access t.rights (t.frame + la % 2 ^ t.key.shift) outcome ≡ None
answered head access la t (Page page) h = pass _ _ _ h.0 (last _ _ (eq-eqb _ _ h.2))
answered head access la t (Fault code) h = bar _ _ _ h.0 (last _ _ (eq-eqb _ _ h.1))

unwritten : (judged is_dirty : Bool) → (not (judged && false) || is_dirty) ≡ true
unwritten true is_dirty = refl
unwritten false is_dirty = refl

-- what was done by a translation had its D
served : (head : Head) (access : AccessKind) (la : ℕ) (t : Translation) (outcome : Outcome) → Answers head access la t outcome →
    (not (judges_accessed head.version && is_done_write access outcome) || t.dirty) ≡ true
served head access la t (Page page) h = h.1
served head access la t (Fault code) h = unwritten (judges_accessed head.version) t.dirty

leaf_certified : (head : Head) (all : List Event) (s : State) (w : ℕ) → w < 2 ^ 32 → At head all s w → Sound head all s w → (p flags la : ℕ) (outcome : Outcome) (moments : List ℕ) →
    want_of outcome ≡ wants.Leaf → HasOutcome head s p la (access_kind flags) outcome wants.Leaf → Certificate head all w (Access p flags la outcome moments)
leaf_certified head all s w few now sound p flags la outcome moments want h =
    let access : AccessKind = access_kind flags in
    let c : Claim = claim_of w p flags la outcome in
    let t : Translation = h.0 in
    let k = sound.translations p t h.1 in
    let parts = and_parts (translation_matches t.key la) ((s.control p).pcid == t.key.pcid || t.key.global) h.2 in
    let number : t.key.number ≡ bits_from t.key.shift la = eqb-true _ _ parts.0 in
    let r = k.read la number in
    let value : ℕ = seen (mem_at all) la k.level k.from k.last in
    let end : Reading = reading_at all la k.level k.from k.last in
    let pge : Bool = (control_at head all p k.last).pge in
    let made : TranslationKey = translation_key t.key.pcid t.key.shift (k.g && pge) la in
    let same : made ≡ t.key =
    ap (λ g. translation_key t.key.pcid t.key.shift g la) k.global
    ∙ ap (λ v. let y : TranslationKey = record { pcid = t.key.pcid; shift = t.key.shift; number = v; global = t.key.global } in y) (sym number) in
    let survived : translation_survives head all p made k.last w ≡ true =
    ap (λ (y : TranslationKey). translation_survives head all p y k.last w) same ∙ k.kept in
    let used : ((control_at head all p w).pcid == t.key.pcid || (k.g && pge)) ≡ true =
    ap (λ (d : Control). d.pcid == t.key.pcid || (k.g && pge)) (now.control p) ∙ ap (λ b. (s.control p).pcid == t.key.pcid || b) k.global ∙ parts.1 in
    let right : failing_leaf head.cfg access (joined k.from.rights value) (t.frame + la % 2 ^ t.key.shift) outcome ≡ None =
    ap (λ rights. failing_leaf head.cfg access rights (t.frame + la % 2 ^ t.key.shift) outcome) r.rights ∙ answered head access la t outcome h.3 in
    let ends : failing_end head all c t.key.pcid end (kind_of head.cfg k.level value) ≡ None =
    ap (failing_end head all c t.key.pcid end) r.leaf
    ∙ pass _ _ _ survived (bar _ _ _ (foreign _ _ used) right) in
    let flagged : IsFlagged head.version c value = record {
      leaf = ap (λ v. not (judges_accessed head.version) || (not (uses_last v) || accessed value)) want ∙ r.cached;
      write = ap (λ v. not (judges_accessed head.version && is_done_write access outcome) || v) r.dirty ∙ served head access la t outcome h.3;
    } in
    record {
      event = Access p flags la outcome (k.ws ++ k.last ∷ []);
      same = refl;
      fits = moments_fit head all p la t.key.pcid k.last (let low : k.last ≤ w = k.low in omega (arith, low, few)) _ k.ws k.level k.from r.walk;
      good = access_none head all c t.key.pcid k.last k.ws k.level k.from r.walk
          (record { low = k.low; wanted = ap (is_wanted (want_of outcome)) r.leaf ∙ ap (λ v. is_wanted v (kinds.Leaf t.frame t.key.shift k.g)) want; alike = k.alike })
          ends flagged;
    }

-- what a fault wants is not used, and it writes nothing
pub fault_flags : (version : Version) (c : Claim) (value code : ℕ) → c.outcome ≡ Fault code → uses_last (want_of c.outcome) ≡ false → IsFlagged version c value
fault_flags version c value code is unused = record {
  leaf = ap (λ b. not (judges_accessed version) || (not b || accessed value)) unused ∙ or_right (not (judges_accessed version)) true refl;
  write = ap (λ (o : Outcome). not (judges_accessed version && is_done_write c.kind o) || dirty value) is ∙ unwritten (judges_accessed version) (dirty value);
}

fault_certified : (head : Head) (all : List Event) (s : State) (w : ℕ) → w < 2 ^ 32 → At head all s w → Sound head all s w → (p flags la : ℕ) (outcome : Outcome) (moments : List ℕ) →
    (kind : Kind) (cause : Cause) → is_wanted (want_of outcome) kind ≡ true → uses_last (want_of outcome) ≡ false → Faults head s p la kind cause (access_kind flags) outcome →
    ((c : Claim) (pcid : ℕ) (r : Reading) → failing_end head all c pcid r kind ≡ failing_fault head.cfg c cause r.moment c.outcome) →
    Certificate head all w (Access p flags la outcome moments)
fault_certified head all s w few now sound p flags la outcome moments kind cause want unused h is_fault =
    let access : AccessKind = access_kind flags in
    let c : Claim = claim_of w p flags la outcome in
    let pcid : ℕ = (s.control p).pcid in
    let level : Level = h.0 in
    let from : Parent = h.1 in
    let k = chain head all s w now sound p la level from h.2 in
    let walk = k.walk la refl in
    let end : Reading = reading_at all la level from w in
    let found : kind_of head.cfg level (seen (mem_at all) la level from w) ≡ kind = ap (kind_of head.cfg level) (now.memory (entry_address from.table level la)) ∙ h.3 in
    let fault : failing_fault head.cfg c cause w (Fault (fault_code head.cfg access cause)) ≡ None = pass _ _ _ (eq-eqb w w refl) (last _ _ (eq-eqb _ _ refl)) in
    record {
      event = Access p flags la outcome (k.ws ++ w ∷ []);
      same = refl;
      fits = moments_fit head all p la pcid w few _ k.ws level from walk;
      good = access_none head all c pcid w k.ws level from walk
          (record { low = omega arith; wanted = ap (is_wanted (want_of outcome)) found ∙ want; alike = ap (λ (d : Control). d.pcid) (now.control p) })
          (ap (failing_end head all c pcid end) found ∙ is_fault c pcid end ∙ ap (λ (o : Outcome). failing_fault head.cfg c cause w o) h.4 ∙ fault)
          (fault_flags head.version c _ _ h.4 unused);
    }

by_want : (head : Head) (all : List Event) (s : State) (w : ℕ) → w < 2 ^ 32 → At head all s w → Sound head all s w → (p flags la : ℕ) (outcome : Outcome) (moments : List ℕ) →
    (want : Want) → want_of outcome ≡ want → HasOutcome head s p la (access_kind flags) outcome want → Certificate head all w (Access p flags la outcome moments)
by_want head all s w few now sound p flags la outcome moments wants.Leaf is h = leaf_certified head all s w few now sound p flags la outcome moments is h
by_want head all s w few now sound p flags la outcome moments wants.Absent is h =
    fault_certified head all s w few now sound p flags la outcome moments kinds.Absent causes.Absent (ap (λ v. is_wanted v kinds.Absent) is) (ap uses_last is) h (λ c pcid r. refl)
by_want head all s w few now sound p flags la outcome moments wants.Reserved is h =
    fault_certified head all s w few now sound p flags la outcome moments kinds.Reserved causes.Reserved (ap (λ v. is_wanted v kinds.Reserved) is) (ap uses_last is) h (λ c pcid r. refl)
by_want head all s w few now sound p flags la outcome moments wants.Present is h = absurd h

-- only records of version 2 have assists
judged_version : (version : Version) (flags : ℕ) → breaks_assist version flags ≡ false → judges_accessed version ≡ true
judged_version versions.One flags h = absurd (cc)
judged_version versions.Two flags h = refl

pub assist_judged : (head : Head) (p flags la word : ℕ) (moments : List ℕ) → broken_rule head (Assist p flags la word moments) ≡ None → judges_accessed head.version ≡ true
assist_judged head p flags la word moments h =
    let there = guard_none (nat_lt p (length head.processors)) rules.Processor _ h in
    let aligned = guard_none (is_word head.cfg.m word) rules.WordAddress _ there.1 in
    let canonical = guard_none (is_canonical la) rules.LinearAddress _ aligned.1 in
    judged_version head.version flags (bar_none (breaks_assist head.version flags) rules.Flags None canonical.1).0

assist_certified : (head : Head) (all : List Event) (s : State) (w : ℕ) → w < 2 ^ 32 → At head all s w → Sound head all s w → (p flags la word : ℕ) (moments : List ℕ) →
    judges_accessed head.version ≡ true → MayAssist head s p la (access_kind flags) word (says_dirty flags) → Certificate head all w (Assist p flags la word moments)
assist_certified head all s w few now sound p flags la word moments judged h =
    let access : AccessKind = access_kind flags in
    let u : Update = update_of w p flags la word in
    let pcid : ℕ = (s.control p).pcid in
    let level : Level = h.0 in
    let from : Parent = h.1 in
    let k = chain head all s w now sound p la level from h.2 in
    let walk = k.walk la refl in
    let value : seen (mem_at all) la level from w ≡ entry_now s la level from = now.memory (entry_address from.table level la) in
    let may : (not u.dirty || may_dirty head.cfg access (joined from.rights (seen (mem_at all) la level from w)) (kind_of head.cfg level (seen (mem_at all) la level from w))) ≡ true =
    ap (λ v. not u.dirty || may_dirty head.cfg access (joined from.rights v) (kind_of head.cfg level v)) value ∙ h.5 in
    record {
      event = Assist p flags la word (k.ws ++ w ∷ []);
      same = refl;
      fits = moments_fit head all p la pcid w few _ k.ws level from walk;
      good = assist_none head all u pcid w k.ws level from judged walk
          (record { low = omega arith; wanted = ap (λ v. is_wanted wants.Present (kind_of head.cfg level v)) value ∙ h.4; alike = ap (λ (d : Control). d.pcid) (now.control p) })
          (and_from _ _ (and_from _ _ (eq-eqb w w refl) (eq-eqb _ _ h.3)) may);
    }

pub certified : (head : Head) (all : List Event) (s : State) (w : ℕ) → w < 2 ^ 32 → At head all s w → Sound head all s w → (e : Event) → broken_rule head e ≡ None → MayCome head s e → Certificate head all w e
certified head all s w few now sound (Access p flags la outcome moments) well may = by_want head all s w few now sound p flags la outcome moments (want_of outcome) refl may
certified head all s w few now sound (Assist p flags la word moments) well may = assist_certified head all s w few now sound p flags la word moments (assist_judged head p flags la word moments well) may
certified head all s w few now sound (Write p addr value) well may = record { event = Write p addr value; same = refl; fits = tt; good = refl }
certified head all s w few now sound (MovCr3 p operand) well may = record { event = MovCr3 p operand; same = refl; fits = tt; good = refl }
certified head all s w few now sound (Invlpg p la) well may = record { event = Invlpg p la; same = refl; fits = tt; good = refl }
certified head all s w few now sound (Invpcid p kind pcid la) well may = record { event = Invpcid p kind pcid la; same = refl; fits = tt; good = refl }
certified head all s w few now sound (MovCr4Pge p on) well may = record { event = MovCr4Pge p on; same = refl; fits = tt; good = refl }
