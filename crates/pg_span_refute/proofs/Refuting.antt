-- An event that nothing known gives has no run in any order.
use Rattle.std.proofs.Common.{◌≡◌, ℕ, zero, suc, ◌+◌, ◌<◌, ◌≤◌, true, false, Bool, ◌&&◌, List, [], ◌∷◌, ◌++◌, length, take, refl, ap, sym, ◌∙◌, subst, arith, inl, inr, Option, Some, None}
use Rattle.std.specs.Prelude.{slice_get}
use Rattle.std.specs.Option.{option_map, option_to_list}
use Rattle.std.proofs.lemmas.Bool.{cases_eq, cases_lt, and_parts}
use Rattle.std.proofs.lemmas.Option.{slice_get-map, slice_get_within}
use Rattle.pg_entry.specs.declared.Cause.{Cause}
use Rattle.pg_entry.specs.declared.Cause.TheVariants as causes
use Rattle.pg_entry.specs.declared.Kind.{Kind}
use Rattle.pg_entry.specs.declared.Kind.TheVariants as kinds
use Rattle.pg_event.specs.declared.control.Control.{Control}
use Rattle.pg_event.specs.declared.event.Event.{Event}
use Rattle.pg_event.specs.declared.event.Event.TheVariants.{Write, Access, Assist, MovCr3, Invlpg, Invpcid, MovCr4Pge}
use Rattle.pg_event.specs.declared.event.Outcome.{Outcome}
use Rattle.pg_event.specs.declared.event.Want.{Want}
use Rattle.pg_event.specs.declared.event.Want.TheVariants as wants
use Rattle.pg_entry.specs.declared.AccessKind.{AccessKind}
use Rattle.pg_event.specs.Form.{access_kind, processor_of, says_dirty}
use Rattle.pg_event.specs.Heads.{Head}
use Rattle.pg_event.specs.Invalidation.{translation_matches}
use Rattle.pg_event.specs.Wants.{want_of}
use Rattle.pg_machine.specs.declared.step.Step.{Step}
use Rattle.pg_machine.specs.declared.step.Step.TheVariants.{Fill4, Fill3, Fill2, FillLeaf, Drop, Do}
use Rattle.pg_machine.specs.Machine.{State, HasOutcome, MayAssist, MayCome, Faults, RunsFrom, IsRun, visible, is_usable, entry_now}
use Rattle.pg_run_of.specs.Converse.{without_moments, AreSameButMoments}
use Rattle.pg_span_run.specs.Orders.{Spanned, IsOrder, ordered}
use Rattle.pg_span_run.proofs.Orders.{order_within}
use Rattle.pg_span_run.proofs.Places.{some_same}
use Rattle.pg_span_refute.specs.declared.slot.Slot.{Slot}
use Rattle.pg_span_refute.specs.declared.table.Table.{Table}
use Rattle.pg_span_refute.specs.Caches.{Known, word_in, IsFilled, HasNoFault, CannotCome, HasNoUpdate, IsNotGiven}
use Rattle.pg_span_refute.specs.Memory.{IsOwn, MayHold}
use Rattle.pg_span_refute.specs.Orders.{NamesWalk}
use Rattle.pg_span_refute.specs.Supposed.{Keeps}
use Rattle.pg_span_refute.proofs.History.{state_after, count, IsAt, Came, Before, IsFront, front, front_next, not_before, own_at}
use Rattle.pg_span_refute.proofs.Holding.{memory_holds, may_hold}
use Rattle.pg_span_refute.proofs.Covering.{IsThere, Covers, readable}
use Rattle.pg_span_refute.proofs.Entering.{HasEnded, own_precedes}

-- what is given by a function was given something
pub mapped_some : {X Y : Type 0} (f : X → Y) (o : Option X) (y : Y) → option_map f o ≡ Some y → (x : X) × (o ≡ Some x) × (f x ≡ y)
mapped_some f None y h = absurd (cc)
mapped_some f (Some x) y h = (x, refl, cc)

-- the events at the beginning of a list
pub at_take : (count n : ℕ) (events : List Event) → n < count → slice_get (take count events) n ≡ slice_get events n
at_take zero n events lt = absurd (omega (arith, lt))
at_take (suc count) n [] lt = refl
at_take (suc count) zero (e ∷ es) lt = refl
at_take (suc count) (suc n) (e ∷ es) lt = at_take count n es (omega (arith, lt))

there_is : (events : List Event) (i : ℕ) → i < length events → (e : Event) × (slice_get events i ≡ Some e)
there_is [] i lt = absurd (omega (arith, lt))
there_is (e ∷ es) zero lt = (e, refl)
there_is (e ∷ es) (suc i) lt = there_is es i (omega (arith, lt))

-- the events in an order, by its places
one_more : (events : List Event) (i : ℕ) (order : List ℕ) (e : Event) → slice_get events i ≡ Some e → ordered events (i ∷ order) ≡ e ∷ ordered events order
one_more events i order e there = ap (λ o. option_to_list o ++ ordered events order) there

pub ordered_at : (events : List Event) (order : List ℕ) → ((k i : ℕ) → slice_get order k ≡ Some i → i < length events) → (k i : ℕ) (e : Event) →
    slice_get order k ≡ Some i → slice_get events i ≡ Some e → slice_get (ordered events order) k ≡ Some e
ordered_at events [] low k i e place there = absurd (cc)
ordered_at events (j ∷ order) low zero i e place there =
    let same : j ≡ i = cc in
    ap (λ es. slice_get es 0) (one_more events j order e (ap (slice_get events) same ∙ there))
ordered_at events (j ∷ order) low (suc k) i e place there =
    let first = there_is events j (low 0 j refl) in
    ap (λ es. slice_get es (suc k)) (one_more events j order first.0 first.1) ∙ ordered_at events order (λ a b h. low (suc a) b h) k i e place there

ordered_from : (events : List Event) (order : List ℕ) → ((k i : ℕ) → slice_get order k ≡ Some i → i < length events) → (k : ℕ) (e : Event) →
    slice_get (ordered events order) k ≡ Some e → (i : ℕ) × (slice_get order k ≡ Some i) × (slice_get events i ≡ Some e)
ordered_from events [] low k e h = absurd (cc)
ordered_from events (j ∷ order) low zero e h =
    let first = there_is events j (low 0 j refl) in
    (j, refl, first.1 ∙ (sym (ap (λ es. slice_get es 0) (one_more events j order first.0 first.1)) ∙ h))
ordered_from events (j ∷ order) low (suc k) e h =
    let first = there_is events j (low 0 j refl) in
    ordered_from events order (λ a b g. low (suc a) b g) k e (sym (ap (λ es. slice_get es (suc k)) (one_more events j order first.0 first.1)) ∙ h)

and_both : (a b : Bool) → a ≡ true → b ≡ true → (a && b) ≡ true
and_both true b h k = k
and_both false b h k = absurd (cc)

-- an event may come whatever its moments
pub may_bare : (head : Head) (st : State) (e : Event) → MayCome head st e → MayCome head st (without_moments e)
may_bare head st (Write p addr value) h = h
may_bare head st (Access p flags la outcome ws) h = h
may_bare head st (Assist p flags la word ws) h = h
may_bare head st (MovCr3 p operand) h = h
may_bare head st (Invlpg p la) h = h
may_bare head st (Invpcid p kind pcid la) h = h
may_bare head st (MovCr4Pge p on) h = h

module _ (s : Spanned) (slot : Slot) (la : ℕ) (asked : Event) (k : Known) (at_event : Slot)
    (there : slice_get s.events slot.next ≡ Some asked) (mine : processor_of asked ≡ slot.p) (walk : NamesWalk la asked) (filled : IsFilled s slot la k) (covers : Covers s slot.edges.now slot.p la slot.next slot.ended k)
    (same_p : at_event.p ≡ slot.p) (same_next : at_event.next ≡ slot.next) (same_edges : at_event.edges.now ≡ slot.edges.now) (more : HasEnded s slot.next slot.ended at_event.ended)
    (cannot : IsNotGiven s at_event la k asked) (order : List ℕ) (is : IsOrder s order) (keeps : Keeps order slot.edges.now) where
  own : IsOwn s.events slot.p slot.next
  own = own_at s.events slot.p slot.next asked there mine

  within : slot.next < length s.events
  within = slice_get_within s.events slot.next asked there

  here_front : (w : ℕ) → slice_get order w ≡ Some slot.next → IsFront s slot.p order w slot.next
  here_front w place = record {
    below = λ j mine b. elim (cases_lt j slot.next) [
      | inl lt ↦ lt
      | inr high ↦ absurd (not_before s order is w slot.next place (elim (cases_eq j slot.next) [
        | inl e ↦ subst (Before order w) e b
        | inr ne ↦
            let lt : slot.next < j = omega (arith, high, ne) in
            let j_in : j < length s.events = order_within s order is b.0 j b.2 in
            front s order is w slot.next j b (own_precedes s slot.p slot.next j lt j_in own mine)
      ]))
    ];
    come = λ j mine lt. front_next s order is w j slot.next place (own_precedes s slot.p j slot.next lt within mine own);
  }

  holds_at : (past : List Step) → Came s order past → slice_get order (count past) ≡ Some slot.next → IsThere s slot.p la order past slot.ended k → (a : ℕ) →
      MayHold s at_event a ((state_after s.head past).memory a)
  holds_at past came place t a =
      may_hold s order is at_event (count past) a _
      (subst (λ q. IsOwn s.events q at_event.next) (sym same_p) (subst (IsOwn s.events slot.p) (sym same_next) own))
      (subst (λ q. IsFront s q order (count past) at_event.next) (sym same_p) (subst (IsFront s slot.p order (count past)) (sym same_next) (here_front (count past) place)))
      (λ j lt. elim (more j lt) [ inl low ↦ t.come j low | inr must ↦ front_next s order is (count past) j slot.next place must ])
      (subst (Keeps order) (sym same_edges) keeps)
      (memory_holds s order is past came a)

  no_fault : (past : List Step) → Came s order past → slice_get order (count past) ≡ Some slot.next → (access : AccessKind) (outcome : Outcome) (kind : Kind) (cause : Cause) →
      HasNoFault s at_event la k access outcome kind cause → Faults s.head (state_after s.head past) slot.p la kind cause access outcome → ⊥
  no_fault past came place access outcome kind cause free f =
      let st : State = state_after s.head past in
      let t : IsThere s slot.p la order past slot.ended k = covers order past is keeps came (here_front (count past) place) in
      let x : Table = record { level = f.0; pcid = (st.control slot.p).pcid; from = f.1 } in
      free x (entry_now st la f.0 f.1) (readable s slot la k filled st t.known f.0 la f.1 refl f.2) (ap (λ (c : Control). c.pcid) t.known.control)
      (holds_at past came place t (word_in la x)) f.3 f.4

  no_outcome : (past : List Step) → Came s order past → slice_get order (count past) ≡ Some slot.next → (access : AccessKind) (outcome : Outcome) (want : Want) →
      CannotCome s at_event la k access outcome want → HasOutcome s.head (state_after s.head past) slot.p la access outcome want → ⊥
  no_outcome past came place access outcome wants.Leaf none h =
      let st : State = state_after s.head past in
      let t : IsThere s slot.p la order past slot.ended k = covers order past is keeps came (here_front (count past) place) in
      let usable : is_usable k.control la h.0 ≡ true = ap (λ c. is_usable c la h.0) (sym t.known.control) ∙ h.2 in
      let parts = and_parts (translation_matches h.0.key la) _ usable in
      none h.0 (t.known.translations h.0 h.1 parts.0) usable h.3
  no_outcome past came place access outcome wants.Absent none h = no_fault past came place access outcome kinds.Absent causes.Absent none h
  no_outcome past came place access outcome wants.Reserved none h = no_fault past came place access outcome kinds.Reserved causes.Reserved none h
  no_outcome past came place access outcome wants.Present none h = h

  no_update : (past : List Step) → Came s order past → slice_get order (count past) ≡ Some slot.next → (access : AccessKind) (word : ℕ) (with_dirty : Bool) →
      HasNoUpdate s at_event la k access word with_dirty → MayAssist s.head (state_after s.head past) slot.p la access word with_dirty → ⊥
  no_update past came place access word with_dirty none h =
      let st : State = state_after s.head past in
      let t : IsThere s slot.p la order past slot.ended k = covers order past is keeps came (here_front (count past) place) in
      let x : Table = record { level = h.0; pcid = (st.control slot.p).pcid; from = h.1 } in
      none x (entry_now st la h.0 h.1) (readable s slot la k filled st t.known h.0 la h.1 refl h.2) (ap (λ (c : Control). c.pcid) t.known.control)
      h.3 (holds_at past came place t (word_in la x)) (and_both _ _ h.4 h.5)

  none_comes : (past : List Step) → Came s order past → slice_get order (count past) ≡ Some slot.next → (e : Event) → processor_of e ≡ slot.p → NamesWalk la e →
      IsNotGiven s at_event la k e → MayCome s.head (state_after s.head past) (without_moments e) → ⊥
  none_comes past came place (Write p addr value) is_own names none h = names
  none_comes past came place (Access p flags address outcome ws) is_own names none h =
      let access : AccessKind = access_kind flags in
      no_outcome past came place access outcome (want_of outcome) none
      (subst (λ q. HasOutcome s.head (state_after s.head past) q la access outcome (want_of outcome)) is_own
      (subst (λ a. HasOutcome s.head (state_after s.head past) p a access outcome (want_of outcome)) names h))
  none_comes past came place (Assist p flags address word ws) is_own names none h =
      let access : AccessKind = access_kind flags in
      no_update past came place access word (says_dirty flags) none
      (subst (λ q. MayAssist s.head (state_after s.head past) q la access word (says_dirty flags)) is_own
      (subst (λ a. MayAssist s.head (state_after s.head past) p a access word (says_dirty flags)) names h))
  none_comes past came place (MovCr3 p operand) is_own names none h = names
  none_comes past came place (Invlpg p address) is_own names none h = names
  none_comes past came place (Invpcid p kind pcid address) is_own names none h = names
  none_comes past came place (MovCr4Pge p on) is_own names none h = names

  no_event : (past : List Step) → Came s order past → (e : Event) → IsAt s order (count past) e → slice_get order (count past) ≡ Some slot.next →
      MayCome s.head (state_after s.head past) e → ⊥
  no_event past came e at place may =
      let number : at.number ≡ slot.next = some_same at.number slot.next (sym at.place ∙ place) in
      let this : Some at.event ≡ Some asked = sym at.there ∙ (ap (slice_get s.events) number ∙ there) in
      let event : at.event ≡ asked = cc in
      let bare : without_moments e ≡ without_moments asked = at.same ∙ ap without_moments event in
      none_comes past came place asked mine walk cannot
      (subst (λ x. MayCome s.head (state_after s.head past) x) bare (may_bare s.head (state_after s.head past) e may))

  goes : (n : ℕ) (steps past : List Step) → Came s order past → RunsFrom s.head (state_after s.head past) steps →
      ((m : ℕ) (e : Event) → m ≤ n → slice_get (visible steps) m ≡ Some e → IsAt s order (count past + m) e) →
      slice_get order (count past + n) ≡ Some slot.next → (e : Event) → slice_get (visible steps) n ≡ Some e → ⊥
  goes n [] past came run each place e at = absurd (cc)
  goes n (Fill4 q b ∷ steps) past came run each place e at = goes n steps (Fill4 q b ∷ past) (came, run.0) run.1 each place e at
  goes n (Fill3 q b from ∷ steps) past came run each place e at = goes n steps (Fill3 q b from ∷ past) (came, run.0) run.1 each place e at
  goes n (Fill2 q b from ∷ steps) past came run each place e at = goes n steps (Fill2 q b from ∷ past) (came, run.0) run.1 each place e at
  goes n (FillLeaf q b level from ∷ steps) past came run each place e at = goes n steps (FillLeaf q b level from ∷ past) (came, run.0) run.1 each place e at
  goes n (Drop q member ∷ steps) past came run each place e at = goes n steps (Drop q member ∷ past) (came, run.0) run.1 each place e at
  goes zero (Do x ∷ steps) past came run each place e at =
      let here : count past + 0 ≡ count past = omega arith in
      no_event past came x (subst (λ w. IsAt s order w x) here (each 0 x (omega arith) refl)) (subst (λ w. slice_get order w ≡ Some slot.next) here place) run.0.1
  goes (suc n) (Do x ∷ steps) past came run each place e at =
      let here : count past + 0 ≡ count past = omega arith in
      let next : (m : ℕ) → count past + suc m ≡ suc (count past) + m = λ m. omega arith in
      goes n steps (Do x ∷ past) (came, subst (λ w. IsAt s order w x) here (each 0 x (omega arith) refl)) run.1
      (λ m y le there. subst (λ w. IsAt s order w y) (next m) (each (suc m) y (omega (arith, le)) there)) (subst (λ w. slice_get order w ≡ Some slot.next) (next n) place) e at

  -- no run has the events up to the place of the event
  pub no_run : (place : ℕ) → slice_get order place ≡ Some slot.next → (steps : List Step) → IsRun s.head steps →
      AreSameButMoments (take (place + 1) (ordered s.events order)) (take (place + 1) (visible steps)) → ⊥
  no_run place at steps run same =
      let low : (a b : ℕ) → slice_get order a ≡ Some b → b < length s.events = λ a b h. order_within s order is a b h in
      let first_of : slice_get (ordered s.events order) place ≡ Some asked = ordered_at s.events order low place slot.next _ at there in
      let seen : (n : ℕ) → n ≤ place → option_map without_moments (slice_get (ordered s.events order) n) ≡ option_map without_moments (slice_get (visible steps) n) =
      λ n le.
      let lt : n < place + 1 = omega (arith, le) in
      let first = slice_get-map without_moments (take (place + 1) (ordered s.events order)) n in
      let second = slice_get-map without_moments (take (place + 1) (visible steps)) n in
      ap (option_map without_moments) (sym (at_take (place + 1) n (ordered s.events order) lt))
      ∙ (sym first ∙ (ap (λ (xs : List Event). slice_get xs n) same ∙ (second ∙ ap (option_map without_moments) (at_take (place + 1) n (visible steps) lt)))) in
      let theirs = mapped_some without_moments (slice_get (visible steps) place) _ (sym (seen place (omega arith)) ∙ ap (option_map without_moments) first_of) in
      let zero_first : (n : ℕ) → n ≡ 0 + n = λ n. omega arith in
      goes place steps [] tt run (λ n e le h.
      let ours = mapped_some without_moments (slice_get (ordered s.events order) n) (without_moments e) (seen n le ∙ ap (option_map without_moments) h) in
      let from = ordered_from s.events order low n ours.0 ours.1 in
      subst (λ w. IsAt s order w e) (zero_first n) (record { number = from.0; event = ours.0; place = from.1; there = from.2; same = sym ours.2 }))
      (subst (λ w. slice_get order w ≡ Some slot.next) (zero_first place) at) theirs.0 theirs.1
