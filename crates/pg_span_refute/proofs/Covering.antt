-- What a processor has in a run, whatever the order, is known in the slot.
use Rattle.std.proofs.Common.{◌≡◌, ◌⊎◌, ℕ, suc, ◌==◌, ◌<◌, ◌&&◌, Bool, true, cond, not, List, [], ◌∷◌, filter, refl, ap, sym, ◌∙◌, subst, arith, inl, inr, Option, Some}
use Rattle.std.proofs.lemmas.Bool.{cases_Bool, cases_eq, ne_eqb, eqb-true}
use Rattle.pg_entry.specs.declared.Kind.{Kind}
use Rattle.pg_entry.specs.declared.Level.{Level}
use Rattle.pg_entry.specs.declared.Level.TheVariants.{Four, Three, Two, One}
use Rattle.pg_entry.specs.Kinds.{dirty, kind_of}
use Rattle.pg_entry.specs.Permission.{joined}
use Rattle.pg_event.specs.declared.control.Control.{Control}
use Rattle.pg_event.specs.declared.event.Event.{Event}
use Rattle.pg_event.specs.declared.event.Event.TheVariants.{Write, Access, Assist, MovCr3, Invlpg, Invpcid, MovCr4Pge}
use Rattle.pg_event.specs.declared.walk.Parent.{Parent}
use Rattle.pg_event.specs.Form.{processor_of}
use Rattle.pg_event.specs.Heads.{Head}
use Rattle.pg_event.specs.Invalidation.{structure_key, bits_from, level_shift, translation_matches}
use Rattle.pg_event.specs.Values.{controlled, loaded}
use Rattle.pg_event.specs.Walk.{root_of}
use Rattle.pg_event.specs.Wants.{is_table}
use Rattle.pg_machine.specs.declared.step.Member.{Member}
use Rattle.pg_machine.specs.declared.step.Member.TheVariants as members
use Rattle.pg_machine.specs.declared.step.Step.{Step}
use Rattle.pg_machine.specs.declared.step.Step.TheVariants.{Fill4, Fill3, Fill2, FillLeaf, Drop, Do}
use Rattle.pg_machine.specs.declared.step.Structure.{Structure}
use Rattle.pg_machine.specs.declared.step.Translation.{Translation}
use Rattle.pg_machine.specs.Machine.{State, IsIn, MayRead, FindsTable, FindsLeaf, entry_now, structure_at, translation_at, with_table, with_leaf, without, same_structure, same_translation, changed_at, after_event}
use Rattle.pg_span_run.specs.Orders.{Spanned, IsOrder}
use Rattle.pg_span_refute.specs.declared.slot.Slot.{Slot}
use Rattle.pg_span_refute.specs.declared.table.Table.{Table}
use Rattle.pg_span_refute.specs.Caches.{Known, table_by, table_below, word_in, IsTaken, IsFilled, Grows}
use Rattle.pg_span_refute.specs.Memory.{IsOwn, MayHold}
use Rattle.pg_span_refute.specs.Supposed.{Keeps}
use Rattle.pg_span_refute.specs.declared.edge.Edge.{Edge}
use Rattle.pg_span_refute.proofs.History.{state_after, count, IsAt, Came, Before, IsFront, before_more, before_less, processor_at}
use Rattle.pg_span_refute.proofs.Holding.{memory_holds, may_hold}
use Rattle.pg_span_refute.proofs.Prefixes.{Agree, agree_above, same_address, shift_is}
use Rattle.pg_span_refute.proofs.Same.{processor_same}

-- the structure entry that a level gives for an address
abbrev pub entry_of : ℕ → Level → ℕ → Parent → Structure
entry_of pcid up la from = record { key = structure_key pcid up la; table = from.table; rights = from.rights }

-- what processor p has in a state for an address is known
pub record IsKnown (st : State) (p la : ℕ) (k : Known) : Type 0 where
  pub control : st.control p ≡ k.control
  pub tables : (up : Level) (pcid : ℕ) (from : Parent) → (up ≡ One → ⊥) → IsIn (entry_of pcid up la from) (st.structures p) → IsIn (table_below up pcid from) k.tables
  pub translations : (x : Translation) → IsIn x (st.translations p) → translation_matches x.key la ≡ true → IsIn x k.translations

-- the latest step is an event of p, or there is none
abbrev pub HasEntered : ℕ → List Step → Type 0
HasEntered p [] = Unit {0}
HasEntered p (Fill4 q la ∷ past) = ⊥
HasEntered p (Fill3 q la from ∷ past) = ⊥
HasEntered p (Fill2 q la from ∷ past) = ⊥
HasEntered p (FillLeaf q la level from ∷ past) = ⊥
HasEntered p (Drop q member ∷ past) = ⊥
HasEntered p (Do e ∷ past) = processor_of e ≡ p

-- so many events, the first as they ended, have come
abbrev pub HaveCome : List ℕ → ℕ → ℕ → Type 0
HaveCome order w ended = (j : ℕ) → j < ended → Before order w j

pub record IsThere (s : Spanned) (p la : ℕ) (order : List ℕ) (past : List Step) (ended : ℕ) (k : Known) : Type 0 where
  pub known : IsKnown (state_after s.head past) p la k
  pub come : HaveCome order (count past) ended

-- in each order that is as supposed, at each time before event next of p and after its earlier ones
abbrev pub Covers : Spanned → List Edge → ℕ → ℕ → ℕ → ℕ → Known → Type 0
Covers s edges p la next ended k = (order : List ℕ) (past : List Step) → IsOrder s order → Keeps order edges → Came s order past → IsFront s p order (count past) next → IsThere s p la order past ended k

-- in each order that is as supposed, as soon as the earlier ones have come
abbrev pub Enters : Spanned → List Edge → ℕ → ℕ → ℕ → ℕ → Known → Type 0
Enters s edges p la next ended k = (order : List ℕ) (past : List Step) → IsOrder s order → Keeps order edges → Came s order past → IsFront s p order (count past) next → HasEntered p past → IsThere s p la order past ended k

-- what is in a cache after a step
pub in_pushed : {X : Type 0} (p q : ℕ) (x y : X) (old : ℕ → List X) → IsIn x (changed_at p (λ xs. y ∷ xs) old q) → ((q ≡ p) × (y ≡ x)) ⊎ IsIn x (old q)
in_pushed p q x y old h =
    elim (cases_Bool (q == p)) [
      | inl t ↦ elim (rw t at h) as (λ _. ((q ≡ p) × (y ≡ x)) ⊎ IsIn x (old q)) [ inl e ↦ inl (eqb-true q p t, e) | inr i ↦ inr i ]
      | inr f ↦ inr (rw f at h)
    ]

pub in_filtered : {X : Type 0} (test : X → Bool) (x : X) (xs : List X) → IsIn x (filter test xs) → IsIn x xs × (test x ≡ true)
in_filtered test x [] h = absurd h
in_filtered test x (y ∷ ys) h =
    elim (cases_Bool (test y)) [
      | inl t ↦ elim (rw t at h) as (λ _. IsIn x (y ∷ ys) × (test x ≡ true)) [
        | inl e ↦ (inl e, ap test (sym e) ∙ t)
        | inr i ↦ let more = in_filtered test x ys i in (inr more.0, more.1)
      ]
      | inr f ↦ let more = in_filtered test x ys (rw f at h) in (inr more.0, more.1)
    ]

pub in_dropped : {X : Type 0} (p q : ℕ) (test : X → Bool) (x : X) (old : ℕ → List X) → IsIn x (changed_at p (filter test) old q) → IsIn x (old q)
in_dropped p q test x old h =
    elim (cases_Bool (q == p)) [
      | inl t ↦ (in_filtered test x (old q) (rw t at h)).0
      | inr f ↦ rw f at h
    ]

four_high : Four ≡ One → ⊥
four_high e = let n : 39 ≡ 12 = ap level_shift e in omega (arith, n)

three_high : Three ≡ One → ⊥
three_high e = let n : 30 ≡ 12 = ap level_shift e in omega (arith, n)

two_high : Two ≡ One → ⊥
two_high e = let n : 21 ≡ 12 = ap level_shift e in omega (arith, n)

-- the parts of a structure entry
record AreParts (up level : Level) (pcid own la b : ℕ) (from to : Parent) : Type 0 where
  pub context : own ≡ pcid
  pub depth : level ≡ up
  pub agree : Agree up b la
  pub table : to ≡ from

parts_of : (up level : Level) (pcid own la b : ℕ) (from to : Parent) → entry_of own level b to ≡ entry_of pcid up la from → AreParts up level pcid own la b from to
parts_of up level pcid own la b from to e =
    let same : level ≡ up = ap (λ (x : Structure). x.key.level) e in
    record {
      context = ap (λ (x : Structure). x.key.pcid) e;
      depth = same;
      agree = ap (λ (l : Level). bits_from (level_shift l) b) (sym same) ∙ ap (λ (x : Structure). x.key.prefix) e;
      table = ap (λ (x : Structure). let f : Parent = record { table = x.table; rights = x.rights } in f) e;
    }

module _ (s : Spanned) (slot : Slot) (la : ℕ) (k : Known) (filled : IsFilled s slot la k) (st : State) (known : IsKnown st slot.p la k) where
  -- a table that a walk may read for an address that agrees down to its level
  below_entry : (up : Level) (b : ℕ) (from : Parent) → (up ≡ One → ⊥) → Agree up b la → IsIn (structure_at st slot.p b up from) (st.structures slot.p) →
      IsIn (table_below up (st.control slot.p).pcid from) k.tables
  below_entry up b from high agree i =
      let pcid : ℕ = (st.control slot.p).pcid in
      let same : structure_at st slot.p b up from ≡ entry_of pcid up la from =
      ap (λ v. let x : Structure = record { key = record { pcid = pcid; level = up; prefix = v }; table = from.table; rights = from.rights } in x) agree in
      known.tables up pcid from high (subst (λ x. IsIn x (st.structures slot.p)) same i)

  pub readable : (level : Level) (b : ℕ) (from : Parent) → Agree level b la → MayRead st slot.p b level from → IsIn (record { level = level; pcid = (st.control slot.p).pcid; from = from }) k.tables
  readable Four b from agree may =
      let at : Control → Table = λ c. record { level = Four; pcid = c.pcid; from = root_of c } in
      let same : at k.control ≡ record { level = Four; pcid = (st.control slot.p).pcid; from = from } =
      ap at (sym known.control) ∙ ap (λ f. let t : Table = record { level = Four; pcid = (st.control slot.p).pcid; from = f } in t) (sym may) in
      subst (λ t. IsIn t k.tables) same filled.root
  readable Three b from agree may = below_entry Four b from four_high (agree_above Four b la agree) may
  readable Two b from agree may = below_entry Three b from three_high (agree_above Three b la agree) may
  readable One b from agree may = below_entry Two b from two_high (agree_above Two b la agree) may

  module _ (holds : (a : ℕ) → MayHold s slot a (st.memory a)) where
    taken : (level : Level) (b : ℕ) (from : Parent) → Agree level b la → MayRead st slot.p b level from →
        IsTaken s.head.version s.head.cfg la k (record { level = level; pcid = (st.control slot.p).pcid; from = from }) (entry_now st b level from)
    taken level b from agree may =
        let t : Table = record { level = level; pcid = (st.control slot.p).pcid; from = from } in
        let value : st.memory (word_in la t) ≡ entry_now st b level from = ap st.memory (sym (same_address from.table level b la agree)) in
        filled.each t (entry_now st b level from) (readable level b from agree may) (ap (λ (c : Control). c.pcid) known.control)
        (subst (MayHold s slot (word_in la t)) value (holds (word_in la t)))

    table_known : (b : ℕ) (level : Level) (from : Parent) (q : ℕ) → FindsTable s.head st q b level from → IsKnown (with_table s.head st q b level from) slot.p la k
    table_known b level from q found = record {
      control = known.control;
      tables = λ up pcid f high h.
          let entry : ℕ = entry_now st b level from in
          let to : Parent = table_by s.head.cfg.m from entry in
          elim (in_pushed q slot.p (entry_of pcid up la f) (structure_at st q b level to) st.structures h) [
            | inl e ↦
                let parts = parts_of up level pcid (st.control q).pcid la b f to e.1 in
                let agree : Agree level b la = subst (λ l. Agree l b la) (sym parts.depth) parts.agree in
                let may : MayRead st slot.p b level from = subst (λ r. MayRead st r b level from) (sym e.0) found.1.1 in
                let is : is_table (kind_of s.head.cfg level entry) ≡ true = ap is_table found.1.3 in
                let got : IsIn (table_below level (st.control slot.p).pcid to) k.tables = (taken level b from agree may).table found.1.2 is in
                let own : (st.control slot.p).pcid ≡ pcid = ap (λ r. (st.control r).pcid) e.0 ∙ parts.context in
                subst (λ l. IsIn (table_below l pcid f) k.tables) parts.depth
                (subst (λ g. IsIn (table_below level pcid g) k.tables) parts.table
                (subst (λ n. IsIn (table_below level n to) k.tables) own got))
            | inr i ↦ known.tables up pcid f high i
          ];
      translations = known.translations;
    }

    leaf_known : (b : ℕ) (level : Level) (from : Parent) (q : ℕ) → FindsLeaf s.head st q b level from →
        IsKnown (with_leaf st q (translation_at (st.control q) b (joined from.rights (entry_now st b level from)) (entry_now st b level from)
        (kind_of s.head.cfg level (entry_now st b level from)))) slot.p la k
    leaf_known b level from q found =
        let frame : ℕ = found.0 in
        let shift : ℕ = found.1 in
        let g : Bool = found.2 in
        let finds = found.3 in
        let entry : ℕ = entry_now st b level from in
        let size : shift ≡ level_shift level = shift_is s.head.cfg level entry frame shift g finds.3 in
        let give : ℕ → Kind → Option Translation = λ a kind. translation_at (st.control q) a (joined from.rights entry) entry kind in
        subst (λ kind. IsKnown (with_leaf st q (give b kind)) slot.p la k) (sym finds.3) (record {
          control = known.control;
          tables = known.tables;
          translations = λ x h matches. elim (in_pushed q slot.p x _ st.translations h) [
            | inl e ↦
                let number : bits_from shift b ≡ bits_from shift la = ap (λ (y : Translation). y.key.number) e.1 ∙ (eqb-true x.key.number (bits_from x.key.shift la) matches
                ∙ ap (λ (y : Translation). bits_from y.key.shift la) (sym e.1)) in
                let agree : Agree level b la = subst (λ n. bits_from n b ≡ bits_from n la) size number in
                let may : MayRead st slot.p b level from = subst (λ r. MayRead st r b level from) (sym e.0) finds.1 in
                let here : k.control ≡ st.control q = sym known.control ∙ ap st.control e.0 in
                let gives : translation_at k.control la (joined from.rights entry) entry (kind_of s.head.cfg level entry) ≡ Some x =
                ap (λ (c : Control). translation_at c la (joined from.rights entry) entry (kind_of s.head.cfg level entry)) here
                ∙ (ap (give la) finds.3
                ∙ (ap (λ n. let y : Translation = record { key = record { pcid = (st.control q).pcid; shift = shift; number = n; global = g && (st.control q).pge }; frame = frame; rights = joined from.rights entry; dirty = dirty entry } in Some y) (sym number)
                ∙ ap Some e.1)) in
                (taken level b from agree may).leaf finds.2 x gives
            | inr i ↦ known.translations x i matches
          ];
        })

drop_known : (st : State) (p la : ℕ) (k : Known) → IsKnown st p la k → (q : ℕ) (member : Member) → IsKnown (without st q member) p la k
drop_known st p la k known q (members.Structure x) = record {
  control = known.control;
  tables = λ up pcid f high h. known.tables up pcid f high (in_dropped q p (λ y. not (same_structure x y)) (entry_of pcid up la f) st.structures h);
  translations = known.translations;
}
drop_known st p la k known q (members.Translation x) = record {
  control = known.control;
  tables = known.tables;
  translations = λ y h matches. known.translations y (in_dropped q p (λ y. not (same_translation x y)) y st.translations h) matches;
}

-- an event of another processor
other_control : (m p : ℕ) (c : Control) (e : Event) → (processor_of e ≡ p → ⊥) → controlled m p c e ≡ c
other_control m p c (Write q addr value) other = refl
other_control m p c (Access q flags la outcome ws) other = refl
other_control m p c (Assist q flags la word ws) other = refl
other_control m p c (MovCr3 q operand) other = ap (λ b. cond b (loaded m operand c.pge) c) (ne_eqb q p other)
other_control m p c (Invlpg q la) other = refl
other_control m p c (Invpcid q kind pcid la) other = refl
other_control m p c (MovCr4Pge q on) other = let d : Control = record c { pge = on } in ap (λ b. cond b d c) (ne_eqb q p other)

other_known : (head : Head) (st : State) (p la : ℕ) (k : Known) (e : Event) → (processor_of e ≡ p → ⊥) → IsKnown st p la k → IsKnown (after_event head st e) p la k
other_known head st p la k e other known = record {
  control = other_control head.cfg.m p (st.control p) e other ∙ known.control;
  tables = λ up pcid from high h. known.tables up pcid from high (in_filtered _ (entry_of pcid up la from) (st.structures p) h).0;
  translations = λ x h matches. known.translations x (in_filtered _ x (st.translations p) h).0 matches;
}

other_front : (s : Spanned) (p : ℕ) (order : List ℕ) (w next : ℕ) (e : Event) → (at : IsAt s order w e) → (processor_of e ≡ p → ⊥) → IsFront s p order (suc w) next → IsFront s p order w next
other_front s p order w next e at other here = record {
  below = λ j own b. here.below j own (before_more order w j b);
  come = λ j own lt. before_less order w at.number j at.place
      (λ is. other (processor_same e at.event at.same ∙ processor_at s.events p at.number at.event at.there (subst (IsOwn s.events p) is own)))
      (here.come j own lt);
}

pub fill_covers : (s : Spanned) (slot : Slot) (la : ℕ) (k l : Known) → IsOwn s.events slot.p slot.next →
    Enters s slot.edges.now slot.p la slot.next slot.ended k → Grows k l → IsFilled s slot la l → Covers s slot.edges.now slot.p la slot.next slot.ended l
fill_covers s slot la k l own enters grows filled order past is keeps came here = go past came here
  where
    grown : (st : State) → IsKnown st slot.p la k → IsKnown st slot.p la l
    grown st known = record {
      control = known.control ∙ sym grows.control;
      tables = λ up pcid from high h. grows.tables _ (known.tables up pcid from high h);
      translations = λ x h matches. grows.translations x (known.translations x h matches);
    }

    entered : (past : List Step) → Came s order past → IsFront s slot.p order (count past) slot.next → HasEntered slot.p past → IsThere s slot.p la order past slot.ended l
    entered past came here h = let t = enters order past is keeps came here h in record { known = grown (state_after s.head past) t.known; come = t.come }

    holds : (past : List Step) → Came s order past → IsFront s slot.p order (count past) slot.next → IsThere s slot.p la order past slot.ended l →
        (a : ℕ) → MayHold s slot a ((state_after s.head past).memory a)
    holds past came here t a = may_hold s order is slot (count past) a _ own here t.come keeps (memory_holds s order is past came a)

    go : (past : List Step) → Came s order past → IsFront s slot.p order (count past) slot.next → IsThere s slot.p la order past slot.ended l
    go [] came here = entered [] came here tt
    go (Fill4 q b ∷ past) came here =
        let t = go past came.0 here in
        let st : State = state_after s.head past in
        record { known = table_known s slot la l filled st t.known (holds past came.0 here t) b Four (root_of (st.control q)) q came.1; come = t.come }
    go (Fill3 q b from ∷ past) came here =
        let t = go past came.0 here in
        record { known = table_known s slot la l filled (state_after s.head past) t.known (holds past came.0 here t) b Three from q came.1; come = t.come }
    go (Fill2 q b from ∷ past) came here =
        let t = go past came.0 here in
        record { known = table_known s slot la l filled (state_after s.head past) t.known (holds past came.0 here t) b Two from q came.1; come = t.come }
    go (FillLeaf q b level from ∷ past) came here =
        let t = go past came.0 here in
        record { known = leaf_known s slot la l filled (state_after s.head past) t.known (holds past came.0 here t) b level from q came.1; come = t.come }
    go (Drop q member ∷ past) came here =
        let t = go past came.0 here in
        record { known = drop_known (state_after s.head past) slot.p la l t.known q member; come = t.come }
    go (Do e ∷ past) came here = elim (cases_eq (processor_of e) slot.p) [
      | inl mine ↦ entered (Do e ∷ past) came here mine
      | inr other ↦
          let t = go past came.0 (other_front s slot.p order (count past) slot.next e came.1 other here) in
          record {
            known = other_known s.head (state_after s.head past) slot.p la l e other t.known;
            come = λ j lt. before_more order (count past) j (t.come j lt);
          }
    ]
