-- The end of a walk that reads at a moment, and the event that it serves.
use Rattle.std.proofs.Common.{Bool, List, None, Some, [], ap, arith, false, inl, inr, not, refl, subst, sym, true, ℕ, ◌∷◌, ◌&&◌, ◌-◌, ◌<◌, ◌==◌, ◌||◌, ◌∙◌, ◌≡◌, ◌≤◌}
use Rattle.pg_event.specs.declared.control.Control.{Control}
use Rattle.pg_machine.specs.declared.step.Structure.{Structure}
use Rattle.pg_machine.specs.declared.step.Translation.{Translation}
use Rattle.pg_run_of.proofs.Standing.{translation_of}
use Rattle.std.proofs.lemmas.Bool.{and_parts, cases_eq, eq-eqb, eqb-true, not-true}
use Rattle.pg_entry.specs.declared.Kind.{Kind}
use Rattle.pg_entry.specs.declared.Cause.{Cause}
use Rattle.pg_entry.specs.declared.Cause.TheVariants as causes
use Rattle.pg_entry.specs.Kinds.{accessed, dirty, kind_of}
use Rattle.pg_entry.specs.Permission.{joined}
use Rattle.pg_event.specs.declared.event.Event.{Event}
use Rattle.pg_event.specs.declared.event.Outcome.{Outcome}
use Rattle.pg_event.specs.declared.event.Outcome.TheVariants.{Fault, Page}
use Rattle.pg_event.specs.declared.event.Want.{Want}
use Rattle.pg_event.specs.declared.event.Want.TheVariants as wants
use Rattle.pg_event.specs.declared.claim.Claim.{Claim}
use Rattle.pg_event.specs.declared.claim.Update.{Update}
use Rattle.pg_event.specs.Heads.{Head, judges_accessed}
use Rattle.pg_event.specs.Form.{processor_of}
use Rattle.pg_event.specs.Values.{control_at}
use Rattle.pg_event.specs.Invalidation.{bits_from, must_drop_structure, must_drop_translation}
use Rattle.pg_event.specs.Walk.{Reading}
use Rattle.pg_event.specs.Wants.{is_wanted, may_dirty, uses_last, want_of}
use Rattle.pg_event.specs.Witness.{takes_out, failing_end, failing_fault, is_done_write, is_updated, survives, structure_survives, translation_survives}
use Rattle.pg_machine.specs.Machine.{IsIn, Answers, Faults, HasOutcome, IsWalkable, MayAssist, State, may_cache, after_event, entry_now, is_usable, translation_at, with_leaf, with_translation}
use Rattle.pg_event.specs.declared.walk.Parent.{Parent}
use Rattle.pg_run_of.specs.declared.fill.Fill.{Fill}
use Rattle.pg_run_of.specs.Plan.{fill_by, step_of, leaf_fills, fills_at}
use Rattle.pg_run_of.proofs.Fills.{fills_here, fills_away}
use Rattle.pg_run_of.proofs.Paths.{Leads}
use Rattle.pg_run_of.proofs.Walks.{Reads}
use Rattle.std.specs.Prelude.{slice_get}
use Rattle.pg_run_of.proofs.Accesses.{answers, bar_none, guard_none, last_none, wants_absent, wants_leaf, wants_no_table, wants_reserved}
use Rattle.pg_run_of.proofs.Standing.{At, Grows, grows_refl, in-filter, in_changed, none_from}
use Rattle.pg_entry.specs.declared.Kind.TheVariants as kinds
use Rattle.pg_event.specs.declared.event.Reason.TheVariants as reasons

-- the translation of a leaf read at the end of a walk
abbrev pub leaf_of : Head → List Event → ℕ → ℕ → ℕ → Reading → ℕ → ℕ → Bool → Translation
leaf_of head all p la pcid r frame shift g = translation_of pcid shift (g && (control_at head all p r.moment).pge) la frame r.rights r.value

-- where the end of the walk is a leaf: its translation stands, if it was read below w and is used
-- at w or later
abbrev pub LeafStands : Head → List Event → State → ℕ → ℕ → ℕ → ℕ → ℕ → Reading → Kind → Type 0
LeafStands head all s p la pcid w i r (kinds.Leaf frame shift g) = r.moment < w → w ≤ i → IsIn (leaf_of head all p la pcid r frame shift g) (s.translations p)
LeafStands head all s p la pcid w i r _ = Unit {0}

abbrev pub LeafStood : Head → List Event → State → ℕ → ℕ → ℕ → ℕ → ℕ → Reading → Kind → Type 0
LeafStood head all s p la pcid w i r (kinds.Leaf frame shift g) = r.moment ≤ w → w ≤ i → IsIn (leaf_of head all p la pcid r frame shift g) (s.translations p)
LeafStood head all s p la pcid w i r _ = Unit {0}

-- the fill of a leaf at w was taken
pub record Leaves (head : Head) (all : List Event) (s : State) (want : Want) (p la pcid w i : ℕ) (from : Parent) (r : Reading) (k : Kind) : Type 0 where
  pub to : State
  pub leads : Leads head s (fills_at w (leaf_fills want p la r.level from r.moment)) to
  pub grows : Grows s to
  pub stood : LeafStood head all to p la pcid w i r k

-- a want that uses no last entry fills none
unfilled : (head : Head) (s : State) (want : Want) (p la w : ℕ) (from : Parent) (r : Reading) → uses_last want ≡ false →
    Leads head s (fills_at w (leaf_fills want p la r.level from r.moment)) s
unfilled head s want p la w from r unused = rw unused refl

-- the fill of a leaf at the moment w
pub leaves : (head : Head) (all : List Event) (s : State) (outcome : Outcome) (p la pcid w i : ℕ) → IsWalkable head p la → At head all s w → (from : Parent) (r : Reading) →
    (control_at head all p r.moment).pcid ≡ pcid → (r.moment ≡ w → Reads s p la from r) →
    (k : Kind) → kind_of head.cfg r.level r.value ≡ k → is_wanted (want_of outcome) k ≡ true →
    (not (judges_accessed head.version) || (not (uses_last (want_of outcome)) || accessed r.value)) ≡ true →
    LeafStands head all s p la pcid w i r k → Leaves head all s (want_of outcome) p la pcid w i from r k
leaves head all s outcome p la pcid w i inside now from r alike reads (kinds.Leaf frame shift g) kind wanted cached stands =
    let fill_it : Fill = fill_by true p la r.level from r.moment in
    let want : want_of outcome ≡ wants.Leaf = wants_leaf outcome frame shift g wanted in
    let one : leaf_fills (want_of outcome) p la r.level from r.moment ≡ fill_it ∷ [] = ap (λ v. leaf_fills v p la r.level from r.moment) want in
    let cacheable : may_cache head.version r.value ≡ true = ap (λ v. not (judges_accessed head.version) || (not (uses_last v) || accessed r.value)) (sym want) ∙ cached in
    elim (cases_eq r.moment w) [
      | inr away ↦ record {
        to = s;
        leads = subst (λ fills. Leads head s (fills_at w fills) s) (sym one) (subst (λ steps. Leads head s steps s) (sym (fills_away w fill_it [] away)) refl);
        grows = grows_refl s;
        stood = λ low high. stands (omega (arith, away, low)) high;
      }
      | inl here ↦
          let may = reads here in
          let t : Translation = leaf_of head all p la pcid r frame shift g in
          let control : s.control p ≡ control_at head all p r.moment = sym (now.control p) ∙ ap (control_at head all p) (sym here) in
          let found : kind_of head.cfg r.level (entry_now s la r.level from) ≡ kinds.Leaf frame shift g = ap (kind_of head.cfg r.level) may.value ∙ kind in
          let same : joined from.rights (entry_now s la r.level from) ≡ r.rights = ap (joined from.rights) may.value ∙ may.rights in
          let made : with_leaf s p (translation_at (s.control p) la (joined from.rights (entry_now s la r.level from)) (entry_now s la r.level from) (kind_of head.cfg r.level (entry_now s la r.level from)))
          ≡ with_translation s p t =
          ap (λ rights. with_leaf s p (translation_at (s.control p) la rights (entry_now s la r.level from) (kind_of head.cfg r.level (entry_now s la r.level from)))) same
          ∙ ap (λ entry. with_leaf s p (translation_at (s.control p) la r.rights entry (kind_of head.cfg r.level (entry_now s la r.level from)))) may.value
          ∙ ap (λ k. with_leaf s p (translation_at (s.control p) la r.rights r.value k)) found
          ∙ ap (λ (c : Control). with_translation s p (translation_of c.pcid shift (g && c.pge) la frame r.rights r.value)) control
          ∙ ap (λ c. with_translation s p (translation_of c shift (g && (control_at head all p r.moment).pge) la frame r.rights r.value)) alike in
          let taken : Leads head s (step_of fill_it ∷ []) (with_translation s p t) = ((frame, shift, g, (inside, may.may, ap (may_cache head.version) may.value ∙ cacheable, found)), made) in
          record {
            to = with_translation s p t;
            leads = subst (λ fills. Leads head s (fills_at w fills) (with_translation s p t)) (sym one) (subst (λ steps. Leads head s steps (with_translation s p t)) (sym (fills_here w fill_it [] here)) taken);
            grows = record { memory = refl; control = refl; structures = λ q x h. h; translations = λ q x h. in_changed p q x t s.translations h };
            stood = λ _ _. rw (eq-eqb p p refl) (inl refl);
          }
    ]
leaves head all s outcome p la pcid w i inside now from r alike reads kinds.Absent kind wanted cached stands =
    record { to = s; leads = unfilled head s (want_of outcome) p la w from r (ap uses_last (wants_absent _ wanted)); grows = grows_refl s; stood = tt }
leaves head all s outcome p la pcid w i inside now from r alike reads kinds.Reserved kind wanted cached stands =
    record { to = s; leads = unfilled head s (want_of outcome) p la w from r (ap uses_last (wants_reserved _ wanted)); grows = grows_refl s; stood = tt }
leaves head all s outcome p la pcid w i inside now from r alike reads (kinds.Table addr) kind wanted cached stands = absurd (wants_no_table outcome addr wanted)

may_use : (a b : Bool) → (not a && not b) ≡ false → (a || b) ≡ true
may_use true b h = refl
may_use false true h = refl
may_use false false h = absurd (cc)

-- a fault may come, where its entry is read at the event
faults : (head : Head) (s : State) (c : Claim) (from : Parent) (r : Reading) → (r.moment ≡ c.number → Reads s c.p c.la from r) → (k : Kind) (cause : Cause) →
    kind_of head.cfg r.level r.value ≡ k → (outcome : Outcome) → failing_fault head.cfg c cause r.moment outcome ≡ None → Faults head s c.p c.la k cause c.kind outcome
faults head s c from r reads k cause kind (Page page) h = absurd (cc)
faults head s c from r reads k cause kind (Fault code) h =
    let here = guard_none (r.moment == c.number) reasons.NotAtEvent _ h in
    let may = reads (eqb-true _ _ here.0) in
    let found : kind_of head.cfg r.level (entry_now s c.la r.level from) ≡ k = ap (kind_of head.cfg r.level) may.value ∙ kind in
    (r.level, from, may.may, found, ap Fault (eqb-true _ _ (last_none _ _ here.1)))

-- the access may come, once its entries stand
pub comes : (head : Head) (all : List Event) (s : State) (c : Claim) (pcid : ℕ) → At head all s c.number → (from : Parent) (r : Reading) → r.moment ≤ c.number →
    (r.moment ≡ c.number → Reads s c.p c.la from r) →
    (k : Kind) → kind_of head.cfg r.level r.value ≡ k → is_wanted (want_of c.outcome) k ≡ true → LeafStood head all s c.p c.la pcid c.number c.number r k →
    failing_end head all c pcid r k ≡ None → (not (judges_accessed head.version && is_done_write c.kind c.outcome) || dirty r.value) ≡ true →
    HasOutcome head s c.p c.la c.kind c.outcome (want_of c.outcome)
comes head all s c pcid now from r low reads (kinds.Table addr) kind wanted stood h serves = absurd (wants_no_table c.outcome addr wanted)
comes head all s c pcid now from r low reads (kinds.Leaf frame shift g) kind wanted stood h serves =
    let t : Translation = leaf_of head all c.p c.la pcid r frame shift g in
    let global : Bool = g && (control_at head all c.p r.moment).pge in
    let survived = guard_none (translation_survives head all c.p t.key r.moment c.number) reasons.TranslationDropped _ h in
    let own = bar_none (not ((control_at head all c.p c.number).pcid == pcid) && not global) reasons.ForeignPcid _ survived.1 in
    let used = may_use ((control_at head all c.p c.number).pcid == pcid) global own.0 in
    let ours : ((s.control c.p).pcid == pcid || global) ≡ true =
    ap (λ (d : Control). d.pcid == pcid || global) (sym (now.control c.p)) ∙ used in
    let usable : is_usable (s.control c.p) c.la t ≡ true = rw (eq-eqb (bits_from shift c.la) (bits_from shift c.la) refl) ours in
    let given : Answers head c.kind c.la t c.outcome = answers head c.kind c.la t c.outcome own.1 serves in
    subst (λ want. HasOutcome head s c.p c.la c.kind c.outcome want) (sym (wants_leaf c.outcome frame shift g wanted))
    (t, stood low (omega arith), usable, given)
comes head all s c pcid now from r low reads kinds.Absent kind wanted stood h serves =
    subst (λ want. HasOutcome head s c.p c.la c.kind c.outcome want) (sym (wants_absent _ wanted)) (faults head s c from r reads kinds.Absent causes.Absent kind c.outcome h)
comes head all s c pcid now from r low reads kinds.Reserved kind wanted stood h serves =
    subst (λ want. HasOutcome head s c.p c.la c.kind c.outcome want) (sym (wants_reserved _ wanted)) (faults head s c from r reads kinds.Reserved causes.Reserved kind c.outcome h)

-- the assist may come, once the tables above its entry stand
pub assists : (head : Head) (s : State) (u : Update) (from : Parent) (r : Reading) → (r.moment ≡ u.number → Reads s u.p u.la from r) →
    is_wanted wants.Present (kind_of head.cfg r.level r.value) ≡ true → is_updated head.cfg u r ≡ true → MayAssist head s u.p u.la u.kind u.word u.dirty
assists head s u from r reads wanted h =
    let one = and_parts (r.moment == u.number && u.word == r.address) (not u.dirty || may_dirty head.cfg u.kind r.rights (kind_of head.cfg r.level r.value)) h in
    let two = and_parts (r.moment == u.number) (u.word == r.address) one.0 in
    let may = reads (eqb-true _ _ two.0) in
    let value : r.value ≡ entry_now s u.la r.level from = sym may.value in
    let given : r.rights ≡ joined from.rights (entry_now s u.la r.level from) = sym may.rights ∙ ap (joined from.rights) value in (
      r.level,
      from,
      may.may,
      eqb-true _ _ two.1 ∙ may.address,
      ap (λ v. is_wanted wants.Present (kind_of head.cfg r.level v)) (sym value) ∙ wanted,
      ap (λ v. not u.dirty || may_dirty head.cfg u.kind (joined from.rights (entry_now s u.la r.level from)) (kind_of head.cfg r.level v)) (sym value)
          ∙ ap (λ rights. not u.dirty || may_dirty head.cfg u.kind rights (kind_of head.cfg r.level r.value)) (sym given) ∙ one.1,
    )

-- an entry that survives a stretch is not taken out at an event in it
pub not_taken : (head : Head) (all : List Event) (p : ℕ) (test : Control → Event → Bool) (from to w : ℕ) (e : Event) → survives head all p test from to ≡ true →
    from ≤ w → w < to → slice_get all w ≡ Some e → (processor_of e == p && test (control_at head all p w) e) ≡ false
not_taken head all p test from to w e h low high at =
    ap (takes_out p test (control_at head all p w)) (sym at)
    ∙ none_from (λ j. takes_out p test (control_at head all p j) (slice_get all j)) from (to - from) w (not-true _ h) low (omega (arith, low, high))

-- what stood before the event stands after it, if it survives
pub structure_stays : (head : Head) (all : List Event) (s : State) (p w : ℕ) (x : Structure) (from to : ℕ) (e : Event) → At head all s w →
    structure_survives head all p x.key from to ≡ true → from ≤ w → w < to → slice_get all w ≡ Some e →
    IsIn x (s.structures p) → IsIn x ((after_event head s e).structures p)
structure_stays head all s p w x from to e now h low high at i =
    let kept = not_taken head all p (λ c e. must_drop_structure head.cfg.rules c e x.key) from to w e h low high at in
    in-filter (λ y. not (processor_of e == p && must_drop_structure head.cfg.rules (s.control p) e y.key)) x (s.structures p) i
    (ap not (ap (λ c. processor_of e == p && must_drop_structure head.cfg.rules c e x.key) (sym (now.control p)) ∙ kept))

pub translation_stays : (head : Head) (all : List Event) (s : State) (p w : ℕ) (x : Translation) (from to : ℕ) (e : Event) → At head all s w →
    translation_survives head all p x.key from to ≡ true → from ≤ w → w < to → slice_get all w ≡ Some e →
    IsIn x (s.translations p) → IsIn x ((after_event head s e).translations p)
translation_stays head all s p w x from to e now h low high at i =
    let kept = not_taken head all p (λ c e. must_drop_translation head.cfg.rules c e x.key) from to w e h low high at in
    in-filter (λ y. not (processor_of e == p && must_drop_translation head.cfg.rules (s.control p) e y.key)) x (s.translations p) i
    (ap not (ap (λ c. processor_of e == p && must_drop_translation head.cfg.rules c e x.key) (sym (now.control p)) ∙ kept))
