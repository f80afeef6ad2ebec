-- An access by a page that is kept is proved by the page's moments.
use Rattle.std.proofs.Common.{◌≡◌, ℕ, ◌+◌, ◌%◌, ◌^◌, ◌==◌, Bool, List, length, refl, ap, sym, ◌∙◌, true, false, not, cond, ◌&&◌, ◌||◌, Option, Some, None, inl, inr}
use Rattle.std.proofs.lemmas.Bool.{cases_Bool, eq-eqb}
use Rattle.pg_entry.specs.declared.AccessKind.{AccessKind}
use Rattle.pg_entry.specs.declared.Cause.TheVariants as causes
use Rattle.pg_entry.specs.declared.Cfg.{Cfg}
use Rattle.pg_entry.specs.declared.Rights.{Rights}
use Rattle.pg_entry.specs.Kinds.{kind_of, accessed, dirty}
use Rattle.pg_entry.specs.Permission.{is_write, is_allowed, fault_code}
use Rattle.pg_event.specs.declared.claim.Claim.{Claim}
use Rattle.pg_event.specs.declared.control.Control.{Control}
use Rattle.pg_event.specs.declared.event.Event.{Event}
use Rattle.pg_event.specs.declared.event.Outcome.{Outcome}
use Rattle.pg_event.specs.declared.event.Outcome.TheVariants.{Page, Fault}
use Rattle.pg_event.specs.declared.event.Reason.TheVariants as reasons
use Rattle.pg_event.specs.declared.event.Want.TheVariants as wants
use Rattle.pg_event.specs.declared.keys.TranslationKey.{TranslationKey}
use Rattle.pg_event.specs.Heads.{Head, judges_accessed}
use Rattle.pg_event.specs.Values.{control_at}
use Rattle.pg_event.specs.Invalidation.{bits_from, translation_key}
use Rattle.pg_event.specs.Wants.{want_of, is_wanted, uses_last}
use Rattle.pg_event.specs.Witness.{asked_by, failing_end, failing_leaf, failing_access, is_done_write, translation_survives}
use Rattle.pg_shadow.specs.declared.entries.KeptLeaf.{KeptLeaf}
use Rattle.pg_shadow.specs.Caches.{Caches, same_space}
use Rattle.pg_shadow.specs.Find.{is_usable, IsHit}
use Rattle.pg_guest.specs.Turn.{outcome_of}
use Rattle.pg_guest.specs.Home.{word_at, EndsInLeaf, AreSound}
use Rattle.pg_guest.proofs.Entries.{want_of_denied}
use Rattle.pg_guest.proofs.Keys.{key_of, survives_alike}
use Rattle.pg_guest.proofs.Positions.{last_passed, flags_pass}
use Rattle.pg_guest.proofs.Sound.{from_root_map}
use Rattle.pg_guest.proofs.Witnesses.{reading_at, IsLast, IsServed, access_witnessed, passed}

not_barred : {X : Type 0} (b : Bool) (x : X) (o : Option X) → b ≡ false → o ≡ None → cond b (Some x) o ≡ None
not_barred true x o h k = absurd (cc)
not_barred false x o h k = k

outcome_wants_leaf : (cfg : Cfg) (kind : AccessKind) (rights : Rights) (address : ℕ) → want_of (outcome_of cfg kind rights address) ≡ wants.Leaf
outcome_wants_leaf cfg kind rights address =
    elim (cases_Bool (is_allowed cfg rights kind)) [
      | inl may ↦ rw may refl
      | inr denied ↦ ap (λ b. want_of (cond b (Page address) (Fault (fault_code cfg kind causes.Denied)))) denied ∙ want_of_denied cfg kind
    ]

outcome_holds : (cfg : Cfg) (kind : AccessKind) (rights : Rights) (address : ℕ) → failing_leaf cfg kind rights address (outcome_of cfg kind rights address) ≡ None
outcome_holds cfg kind rights address =
    let code : ℕ = fault_code cfg kind causes.Denied in
    elim (cases_Bool (is_allowed cfg rights kind)) [
      | inl may ↦
          ap (λ b. failing_leaf cfg kind rights address (cond b (Page address) (Fault code))) may
          ∙ passed (is_allowed cfg rights kind) reasons.Rights _ may (last_passed (address == address) reasons.Answer (eq-eqb address address refl))
      | inr denied ↦
          ap (λ b. failing_leaf cfg kind rights address (cond b (Page address) (Fault code))) denied
          ∙ not_barred (is_allowed cfg rights kind) reasons.Rights _ denied (last_passed (code == code) reasons.Code (eq-eqb code code refl))
    ]

written_by : (kind : AccessKind) (b : Bool) (page code : ℕ) → is_done_write kind (cond b (Page page) (Fault code)) ≡ cond b (is_write kind.op) false
written_by kind true page code = refl
written_by kind false page code = refl

-- a page that may be used has D, where the access writes it
has_dirty : (judged write allowed d : Bool) → not (judged && write && allowed && not d) ≡ true → (judged && (cond allowed write false && not d)) ≡ false
has_dirty false write allowed d h = refl
has_dirty true true true true h = refl
has_dirty true true true false h = absurd (cc)
has_dirty true false true d h = refl
has_dirty true write false d h = refl

used_or_more : (judged a b : Bool) → (not judged || b) ≡ true → (not judged || (a || b)) ≡ true
used_or_more false a b h = refl
used_or_more true true b h = refl
used_or_more true false b h = h

-- a page of the current PCID, or a global one, is not foreign
not_foreign : (cur pcid shift number : ℕ) (g h : Bool) → same_space (key_of cur shift number g) (key_of pcid shift number h) ≡ true → (not (cur == pcid) && not h) ≡ false
not_foreign cur pcid shift number true true same = both (cur == pcid)
  where
    both : (b : Bool) → (not b && false) ≡ false
    both true = refl
    both false = refl
not_foreign cur pcid shift number true false same = absurd (cc)
not_foreign cur pcid shift number false true same = absurd (cc)
not_foreign cur pcid shift number false false same = ap (λ b. not b && true) same

-- by the page as it is kept
leaf_witnesses : (head : Head) (es : List Event) (p la : ℕ) (kind : AccessKind) (s : Caches) (shift : ℕ) (global : Bool) (leaf : KeptLeaf) → AreSound head es p s →
    s.leaves (translation_key s.control.pcid shift global la) ≡ Some leaf → is_usable head kind leaf ≡ true →
    let c : Claim = record { number = length es; p = p; kind = kind; la = la; outcome = outcome_of head.cfg kind leaf.rights (leaf.frame + la % 2 ^ shift) } in
    failing_access head es c leaf.moments ≡ None
leaf_witnesses head es p la kind s shift global leaf all kept usable =
    let n : ℕ = length es in
    let cur : ℕ = s.control.pcid in
    let number : ℕ = bits_from shift la in
    let key : TranslationKey = translation_key cur shift global la in
    let address : ℕ = leaf.frame + la % 2 ^ shift in
    let outcome : Outcome = outcome_of head.cfg kind leaf.rights address in
    let c : Claim = record { number = n; p = p; kind = kind; la = la; outcome = outcome } in
    let judged : Bool = judges_accessed head.version in
    let given = (all.leaves key leaf kept).each la (eq-eqb number number refl) in
    let pcid : ℕ = given.0 in
    let now : (control_at head es p n).pcid ≡ cur = ap (λ (d : Control). d.pcid) (sym all.control) in
    access_witnessed head es c pcid leaf.moments
    (from_root_map head es p la pcid (EndsInLeaf head es p la pcid key leaf) (IsLast head es (asked_by c) pcid (IsServed head es c pcid))
    (λ at w h.
    let g : Bool = h.global_bit && (control_at head es p w).pge in
    let value : ℕ = word_at es la at w in record {
      order = h.order;
      own = h.own;
      wanted = ap (λ want. is_wanted want (kind_of head.cfg at.level value)) (outcome_wants_leaf head.cfg kind leaf.rights address) ∙ ap (is_wanted wants.Leaf) h.leaf;
      ends = record {
        ends = ap (failing_end head es c pcid (reading_at es la at w)) h.leaf
            ∙ passed (translation_survives head es p (translation_key pcid shift g la) w n) reasons.TranslationDropped _
            (sym (survives_alike head es p w n cur pcid shift number global g h.space_is) ∙ h.stands)
            (not_barred (not ((control_at head es p n).pcid == pcid) && not g) reasons.ForeignPcid _
            (ap (λ q. not (q == pcid) && not g) now ∙ not_foreign cur pcid shift number global g h.space_is)
            (ap (λ rights. failing_leaf head.cfg kind rights address outcome) h.rights_are ∙ outcome_holds head.cfg kind leaf.rights address));
        flags = λ tables good. flags_pass judged tables (not (uses_last (want_of outcome)) || accessed value) (is_done_write kind outcome && not (dirty value)) good
            (used_or_more judged (not (uses_last (want_of outcome))) (accessed value) h.usable)
            (ap (λ b. judged && (b && not (dirty value))) (written_by kind (is_allowed head.cfg leaf.rights kind) address (fault_code head.cfg kind causes.Denied))
            ∙ ap (λ d. judged && (cond (is_allowed head.cfg leaf.rights kind) (is_write kind.op) false && not d)) h.dirty_is
            ∙ has_dirty judged (is_write kind.op) (is_allowed head.cfg leaf.rights kind) leaf.dirty usable);
      };
    })
    leaf.moments given.1)

-- by a hit
pub hit_witnesses : (head : Head) (es : List Event) (p la : ℕ) (kind : AccessKind) (s : Caches) (shift : ℕ) (global : Bool) (frame : ℕ) (rights : Rights) (moments : List ℕ) → AreSound head es p s →
    IsHit s la head kind shift global frame rights moments →
    let c : Claim = record { number = length es; p = p; kind = kind; la = la; outcome = outcome_of head.cfg kind rights (frame + la % 2 ^ shift) } in
    failing_access head es c moments ≡ None
hit_witnesses head es p la kind s shift global frame rights moments all hit =
    let claim : Rights → ℕ → Claim = λ r f. record { number = length es; p = p; kind = kind; la = la; outcome = outcome_of head.cfg kind r (f + la % 2 ^ shift) } in
    sym (λ i. failing_access head es (claim (hit.rights_are i) (hit.frame_is i)) (hit.moments_are i))
    ∙ leaf_witnesses head es p la kind s shift global hit.leaf all hit.kept hit.usable
