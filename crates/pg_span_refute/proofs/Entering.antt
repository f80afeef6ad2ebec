-- What is known is handed on from slot to slot.
use Rattle.std.proofs.Common.{◌≡◌, ◌⊎◌, ℕ, suc, ◌==◌, ◌<◌, ◌&&◌, Bool, true, false, not, List, [], ◌∷◌, length, refl, ap, sym, ◌∙◌, subst, arith, inl, inr, Some}
use Rattle.std.specs.Prelude.{slice_get}
use Rattle.std.proofs.lemmas.Bool.{cases_eq, eq-eqb, not-true}
use Rattle.std.proofs.lemmas.Option.{slice_get_within}
use Rattle.pg_event.specs.declared.control.Control.{Control}
use Rattle.pg_event.specs.declared.event.Event.{Event}
use Rattle.pg_event.specs.declared.keys.StructureKey.{StructureKey}
use Rattle.pg_event.specs.Form.{processor_of}
use Rattle.pg_event.specs.Heads.{Head}
use Rattle.pg_event.specs.Invalidation.{structure_key, must_drop_structure, must_drop_translation}
use Rattle.pg_event.specs.Values.{controlled, started}
use Rattle.pg_machine.specs.declared.step.Step.TheVariants.{Fill4, Fill3, Fill2, FillLeaf, Drop, Do}
use Rattle.pg_machine.specs.declared.step.Structure.{Structure}
use Rattle.pg_machine.specs.declared.step.Translation.{Translation}
use Rattle.pg_machine.specs.Machine.{State, after_event}
use Rattle.pg_span_run.specs.Orders.{Spanned, MustPrecede, IsOrder}
use Rattle.pg_span_refute.specs.Caches.{Known, IsLeft}
use Rattle.pg_span_refute.specs.Memory.{IsOwn}
use Rattle.pg_span_refute.specs.declared.edge.Edge.{Edge}
use Rattle.pg_span_refute.proofs.History.{state_after, count, IsAt, Before, IsFront, before_more, before_less, front, front_next, not_before, own_at}
use Rattle.pg_span_refute.proofs.Covering.{entry_of, IsKnown, IsThere, Covers, Enters, in_filtered}
use Rattle.pg_span_refute.proofs.Same.{controlled_same, processor_same, structure_same, translation_same}

-- of the first so many events each had come, or must come before event i
abbrev pub HasEnded : Spanned → ℕ → ℕ → ℕ → Type 0
HasEnded s i ended later = (j : ℕ) → j < later → (j < ended) ⊎ MustPrecede s j i

-- nothing is known at the start
pub starts : (s : Spanned) (edges : List Edge) (p la : ℕ) → Enters s edges p la 0 0 (record { control = started s.head.cfg.m (slice_get s.head.processors p); tables = []; translations = [] })
starts s edges p la order [] is keeps came here entered =
    record { known = record { control = refl; tables = λ up pcid from high h. absurd h; translations = λ x h matches. absurd h }; come = λ j lt. absurd (omega (arith, lt)) }
starts s edges p la order (Fill4 q b ∷ past) is keeps came here entered = absurd entered
starts s edges p la order (Fill3 q b from ∷ past) is keeps came here entered = absurd entered
starts s edges p la order (Fill2 q b from ∷ past) is keeps came here entered = absurd entered
starts s edges p la order (FillLeaf q b level from ∷ past) is keeps came here entered = absurd entered
starts s edges p la order (Drop q member ∷ past) is keeps came here entered = absurd entered
starts s edges p la order (Do e ∷ past) is keeps came here entered =
    let at : IsAt s order (count past) e = came.1 in
    let own : IsOwn s.events p at.number = own_at s.events p at.number at.event at.there (sym (processor_same e at.event at.same) ∙ entered) in
    let lt : at.number < 0 = here.below at.number own (count past, omega arith, at.place) in
    absurd (omega (arith, lt))

-- an event of another processor
pub skips : (s : Spanned) (edges : List Edge) (p la c ended : ℕ) (k : Known) → (IsOwn s.events p c → ⊥) → Enters s edges p la c ended k → Enters s edges p la (suc c) ended k
skips s edges p la c ended k other enters order past is keeps came here entered = enters order past is keeps came (record {
  below = λ j own b.
      let lt : j < suc c = here.below j own b in
      let differs : j ≡ c → ⊥ = λ e. other (subst (IsOwn s.events p) e own) in
      omega (arith, lt, differs);
  come = λ j own lt. here.come j own (omega (arith, lt));
}) entered

-- an earlier event of p comes before a later one
pub own_precedes : (s : Spanned) (p j i : ℕ) → j < i → i < length s.events → IsOwn s.events p j → IsOwn s.events p i → MustPrecede s j i
own_precedes s p j i lt within mine yours = record { within = within; why = inr (lt, mine ∙ sym yours) }

and_true : (a b : Bool) → a ≡ true → (a && b) ≡ false → b ≡ false
and_true true b h e = e
and_true false b h e = absurd (cc)

module _ (s : Spanned) (edges : List Edge) (p la c ended later : ℕ) (x : Event) (k l : Known) (there : slice_get s.events c ≡ Some x) (mine : processor_of x ≡ p)
    (control : l.control ≡ controlled s.head.cfg.m p k.control x) (left : IsLeft s.head.cfg.rules la x k l) (more : HasEnded s c ended later) where
  own_c : IsOwn s.events p c
  own_c = own_at s.events p c x there mine

  -- the event that has just come is event c
  is_c : (order : List ℕ) (w n : ℕ) → IsOrder s order → slice_get order w ≡ Some n → IsOwn s.events p n → IsFront s p order (suc w) (suc c) → n ≡ c
  is_c order w n is place own here =
      elim (cases_eq n c) [
        | inl e ↦ e
        | inr ne ↦
            let low : n < suc c = here.below n own (w, omega arith, place) in
            let lt : n < c = omega (arith, low, ne) in
            let c_came : Before order w c = before_less order w n c place (λ e. ne (sym e)) (here.come c own_c (omega arith)) in
            absurd (not_before s order is w n place (front s order is w n c c_came (own_precedes s p n c lt (slice_get_within s.events c x there) own own_c)))
      ]

  front_c : (order : List ℕ) (w : ℕ) → IsOrder s order → slice_get order w ≡ Some c → IsFront s p order (suc w) (suc c) → IsFront s p order w c
  front_c order w is place here = record {
    below = λ j own b.
        let lt : j < suc c = here.below j own (before_more order w j b) in
        let differs : j ≡ c → ⊥ = λ e. not_before s order is w c place (subst (Before order w) e b) in
        omega (arith, lt, differs);
    come = λ j own lt.
        let differs : j ≡ c → ⊥ = λ e. omega (arith, lt, e) in
        before_less order w c j place differs (here.come j own (omega (arith, lt)));
  }

  after_own : (head : Head) (st : State) (e : Event) → head.cfg.m ≡ s.head.cfg.m → head.cfg.rules ≡ s.head.cfg.rules → IsKnown st p la k → processor_of e ≡ p →
      ((m q : ℕ) (d : Control) → controlled m q d e ≡ controlled m q d x) → ((d : Control) (y : StructureKey) → must_drop_structure s.head.cfg.rules d e y ≡ must_drop_structure s.head.cfg.rules d x y) →
      ((y : Translation) → must_drop_translation s.head.cfg.rules k.control e y.key ≡ must_drop_translation s.head.cfg.rules k.control x y.key) → IsKnown (after_event head st e) p la l
  after_own head st e m rules known own controls structures translations = record {
    control = controls head.cfg.m p (st.control p) ∙ (ap (λ d. controlled head.cfg.m p d x) known.control ∙ (ap (λ n. controlled n p k.control x) m ∙ sym control));
    tables = λ up pcid from high h.
        let kept = in_filtered (λ (y : Structure). not (processor_of e == p && must_drop_structure head.cfg.rules (st.control p) e y.key)) (entry_of pcid up la from) (st.structures p) h in
        let stays : must_drop_structure s.head.cfg.rules (st.control p) e (structure_key pcid up la) ≡ false =
        ap (λ r. must_drop_structure r (st.control p) e (structure_key pcid up la)) (sym rules) ∙ and_true _ _ (eq-eqb (processor_of e) p own) (not-true _ kept.1) in
        left.tables up pcid from high
        (sym (structures k.control (structure_key pcid up la)) ∙ (ap (λ d. must_drop_structure s.head.cfg.rules d e (structure_key pcid up la)) (sym known.control) ∙ stays))
        (known.tables up pcid from high kept.0);
    translations = λ y h matches.
        let kept = in_filtered (λ (y : Translation). not (processor_of e == p && must_drop_translation head.cfg.rules (st.control p) e y.key)) y (st.translations p) h in
        let stays : must_drop_translation s.head.cfg.rules (st.control p) e y.key ≡ false =
        ap (λ r. must_drop_translation r (st.control p) e y.key) (sym rules) ∙ and_true _ _ (eq-eqb (processor_of e) p own) (not-true _ kept.1) in
        left.translations y
        (sym (translations y) ∙ (ap (λ d. must_drop_translation s.head.cfg.rules d e y.key) (sym known.control) ∙ stays))
        (known.translations y kept.0 matches);
  }

  -- event c of p itself
  pub passes : Covers s edges p la c ended k → Enters s edges p la (suc c) later l
  passes covers order [] is keeps came here entered =
      let b : Before order 0 c = here.come c own_c (omega arith) in
      let lt : b.0 < 0 = b.1 in
      absurd (omega (arith, lt))
  passes covers order (Fill4 q b ∷ past) is keeps came here entered = absurd entered
  passes covers order (Fill3 q b from ∷ past) is keeps came here entered = absurd entered
  passes covers order (Fill2 q b from ∷ past) is keeps came here entered = absurd entered
  passes covers order (FillLeaf q b level from ∷ past) is keeps came here entered = absurd entered
  passes covers order (Drop q member ∷ past) is keeps came here entered = absurd entered
  passes covers order (Do e ∷ past) is keeps came here entered =
      let at : IsAt s order (count past) e = came.1 in
      let w : ℕ = count past in
      let own : IsOwn s.events p at.number = own_at s.events p at.number at.event at.there (sym (processor_same e at.event at.same) ∙ entered) in
      let this : at.number ≡ c = is_c order w at.number is at.place own here in
      let place : slice_get order w ≡ Some c = at.place ∙ ap Some this in
      let event : at.event ≡ x = some_is at.event x (sym at.there ∙ (ap (slice_get s.events) this ∙ there)) in
      let t : IsThere s p la order past ended k = covers order past is keeps came.0 (front_c order w is place here) in
      record {
        known = after_own s.head (state_after s.head past) e refl refl t.known entered
            (λ m q d. controlled_same e at.event at.same m q d ∙ ap (controlled m q d) event)
            (λ d y. structure_same e at.event at.same s.head.cfg.rules d y ∙ ap (λ z. must_drop_structure s.head.cfg.rules d z y) event)
            (λ y. translation_same e at.event at.same s.head.cfg.rules k.control y.key ∙ ap (λ z. must_drop_translation s.head.cfg.rules k.control z y.key) event);
        come = λ j lt. before_more order w j (elim (more j lt) [
          | inl low ↦ t.come j low
          | inr must ↦ front_next s order is w j c place must
        ]);
      }
    where
      some_is : (a b : Event) → Some a ≡ Some b → a ≡ b
      some_is a b h = cc
