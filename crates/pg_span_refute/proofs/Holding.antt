-- What memory holds in a run whose events have an order.
use Rattle.std.proofs.Common.{◌≡◌, ◌⊎◌, ℕ, suc, ◌==◌, ◌<◌, ◌||◌, Bool, true, false, cond, List, [], ◌∷◌, refl, ap, sym, ◌∙◌, subst, arith, inl, inr, Option, Some, None}
use Rattle.std.specs.Prelude.{slice_get, bit_or}
use Rattle.std.proofs.lemmas.Bool.{cases_Bool, cases_eq, eq-eqb, eqb-true}
use Rattle.std.specs.Int.{bit_at}
use Rattle.std.proofs.lemmas.Nat.Bits.{bit_at_or, same_from_bits}
use Rattle.pg_entry.specs.Kinds.{marked}
use Rattle.pg_event.specs.declared.event.Event.{Event}
use Rattle.pg_event.specs.declared.event.Event.TheVariants.{Write, Access, Assist, MovCr3, Invlpg, Invpcid, MovCr4Pge}
use Rattle.pg_event.specs.Form.{says_dirty}
use Rattle.pg_event.specs.Values.{written}
use Rattle.pg_machine.specs.declared.step.Member.{Member}
use Rattle.pg_machine.specs.declared.step.Member.TheVariants as members
use Rattle.pg_machine.specs.declared.step.Step.{Step}
use Rattle.pg_machine.specs.declared.step.Step.TheVariants.{Fill4, Fill3, Fill2, FillLeaf, Drop, Do}
use Rattle.pg_machine.specs.declared.step.Translation.{Translation}
use Rattle.pg_machine.specs.Machine.{State, with_leaf, without}
use Rattle.pg_span_run.specs.Orders.{Spanned, MustPrecede, StandsBefore, IsOrder}
use Rattle.pg_span_refute.specs.declared.slot.Slot.{Slot}
use Rattle.pg_span_refute.specs.Memory.{Writes, WritesTo, IsOwn, IsPast, IsSupposedPast, IsSupposedLater, IsToCome, SetsFlags, MayBeLast, MayBeLeft, MayBeMarked, MayHold}
use Rattle.pg_span_refute.specs.Supposed.{Keeps}
use Rattle.pg_span_refute.proofs.History.{state_after, count, IsAt, Came, Before, IsFront, before_more, before_less, once, front, front_by, not_before}
use Rattle.pg_span_refute.proofs.Same.{written_same}

-- a write of the value has come, and none that must follow it
pub record IsLast (s : Spanned) (order : List ℕ) (w a v j : ℕ) : Type 0 where
  pub writes : Writes s.events a v j
  pub came : Before order w j
  pub last : (i : ℕ) → WritesTo s.events a i → Before order w i → MustPrecede s j i → ⊥

-- what the last write has left, or 0 where no write has come
abbrev pub Left : Spanned → List ℕ → ℕ → ℕ → ℕ → Type 0
Left s order w a v = ((j : ℕ) × IsLast s order w a v j) ⊎ ((v ≡ 0) × ((i : ℕ) → WritesTo s.events a i → Before order w i → ⊥))

-- an assist of the word has come after the last write
pub record HasSet (s : Spanned) (order : List ℕ) (w a : ℕ) (flag : Bool) (m j : ℕ) : Type 0 where
  pub sets : SetsFlags s.events a flag j
  pub came : Before order w j
  pub behind : StandsBefore order m j

-- assists have set flags in what the last write has left
abbrev pub Marked : Spanned → List ℕ → ℕ → ℕ → ℕ → Bool → Type 0
Marked s order w a v flag =
    ((m : ℕ) × IsLast s order w a v m × (j : ℕ) × HasSet s order w a flag m j)
    ⊎ ((v ≡ 0) × ((i : ℕ) → WritesTo s.events a i → Before order w i → ⊥))

-- what the last write has left, or that with the flags that assists have set since
abbrev pub Holds : Spanned → List ℕ → ℕ → ℕ → ℕ → Type 0
Holds s order w a v = Left s order w a v ⊎ ((u : ℕ) × (flag : Bool) × Marked s order w a u flag × (v ≡ marked flag u))

some_event : (x y : Event) → Some x ≡ Some y → x ≡ y
some_event x y h = cc

-- an event that does not write to the word
last_by_other : (s : Spanned) (order : List ℕ) (w a v i m : ℕ) → slice_get order w ≡ Some i → (WritesTo s.events a i → ⊥) → IsLast s order w a v m → IsLast s order (suc w) a v m
last_by_other s order w a v i m here none h = record {
  writes = h.writes;
  came = before_more order w m h.came;
  last = λ x to before must. h.last x to (before_less order w i x here (λ e. none (subst (WritesTo s.events a) e to)) before) must;
}

none_by_other : (s : Spanned) (order : List ℕ) (w a i : ℕ) → slice_get order w ≡ Some i → (WritesTo s.events a i → ⊥) → ((x : ℕ) → WritesTo s.events a x → Before order w x → ⊥) →
    (x : ℕ) → WritesTo s.events a x → Before order (suc w) x → ⊥
none_by_other s order w a i here none h x to before = h x to (before_less order w i x here (λ e. none (subst (WritesTo s.events a) e to)) before)

left_by_other : (s : Spanned) (order : List ℕ) (w a v i : ℕ) → slice_get order w ≡ Some i → (WritesTo s.events a i → ⊥) → Left s order w a v → Left s order (suc w) a v
left_by_other s order w a v i here none (inl h) = inl (h.0, last_by_other s order w a v i h.0 here none h.1)
left_by_other s order w a v i here none (inr h) = inr (h.0, none_by_other s order w a i here none h.1)

marked_by_other : (s : Spanned) (order : List ℕ) (w a v i : ℕ) (flag : Bool) → slice_get order w ≡ Some i → (WritesTo s.events a i → ⊥) → Marked s order w a v flag → Marked s order (suc w) a v flag
marked_by_other s order w a v i flag here none (inl h) =
    inl (h.0, last_by_other s order w a v i h.0 here none h.1, h.2, record { sets = h.3.sets; came = before_more order w h.2 h.3.came; behind = h.3.behind })
marked_by_other s order w a v i flag here none (inr h) = inr (h.0, none_by_other s order w a i here none h.1)

other_event : (s : Spanned) (order : List ℕ) (w a v i : ℕ) → slice_get order w ≡ Some i → (WritesTo s.events a i → ⊥) → Holds s order w a v → Holds s order (suc w) a v
other_event s order w a v i here none (inl h) = inl (left_by_other s order w a v i here none h)
other_event s order w a v i here none (inr h) = inr (h.0, h.1, marked_by_other s order w a h.0 i h.1 here none h.2, h.3)

not_itself : (s : Spanned) (order : List ℕ) → IsOrder s order → (i : ℕ) → MustPrecede s i i → ⊥
not_itself s order is i must =
    let b = is.keeps i i must in
    not_before s order is b.later i b.second (b.place, b.rises, b.first)

-- an event that writes to it
own_event : (s : Spanned) (order : List ℕ) → IsOrder s order → (w a v i : ℕ) → slice_get order w ≡ Some i → Writes s.events a v i → Holds s order (suc w) a v
own_event s order is w a v i here writes = inl (inl (
  i,
  record {
    writes = writes;
    came = (w, omega arith, here);
    last = λ x to before must. elim (cases_eq x i) [
      | inl e ↦ not_itself s order is i (subst (MustPrecede s i) e must)
      | inr ne ↦ not_before s order is w i here (front s order is w i x (before_less order w i x here ne before) must)
    ];
  },
))

no_write : (s : Spanned) (a i : ℕ) (x : Event) → slice_get s.events i ≡ Some x → ((q v : ℕ) → x ≡ Write q a v → ⊥) → WritesTo s.events a i → ⊥
no_write s a i x there none to = none to.1.0 to.0 (some_event x (Write to.1.0 a to.0) (sym there ∙ to.1.1))

or_assoc : (a b c : ℕ) → bit_or (bit_or a b) c ≡ bit_or a (bit_or b c)
or_assoc a b c = same_from_bits (bit_or (bit_or a b) c) (bit_or a (bit_or b c)) (λ i. let e : bit_at (bit_or (bit_or a b) c) i ≡ bit_at (bit_or a (bit_or b c)) i = omega (arith, bit_at_or (bit_or a b) c i, bit_at_or a b i, bit_at_or a (bit_or b c) i, bit_at_or b c i) in e)

-- flags that are set once more
marked_again : (d b : Bool) (u : ℕ) → marked d (marked b u) ≡ marked (d || b) u
marked_again true true u = or_assoc u 96 96
marked_again true false u = or_assoc u 32 96
marked_again false true u = or_assoc u 96 32
marked_again false false u = or_assoc u 32 32

-- an assist of the word comes after the last write
has_set : (s : Spanned) (order : List ℕ) (w a v m i : ℕ) (d : Bool) → slice_get order w ≡ Some i → SetsFlags s.events a d i → IsLast s order w a v m → HasSet s order (suc w) a d m i
has_set s order w a v m i d here sets last = record {
  sets = sets;
  came = (w, omega arith, here);
  behind = let came : Before order w m = last.came in record { place = came.0; later = w; rises = came.1; first = came.2; second = here };
}

set_more : (s : Spanned) (order : List ℕ) (w a m j : ℕ) (d : Bool) → HasSet s order w a d m j → HasSet s order (suc w) a d m j
set_more s order w a m j d h = record { sets = h.sets; came = before_more order w j h.came; behind = h.behind }

-- flags that are set where some were set before
set_again : (s : Spanned) (order : List ℕ) (w a v i : ℕ) (d b : Bool) → slice_get order w ≡ Some i → SetsFlags s.events a d i → (WritesTo s.events a i → ⊥) → Marked s order w a v b → Marked s order (suc w) a v (d || b)
set_again s order w a v i true b here sets none (inl h) = inl (h.0, last_by_other s order w a v i h.0 here none h.1, i, has_set s order w a v h.0 i true here sets h.1)
set_again s order w a v i false b here sets none (inl h) = inl (h.0, last_by_other s order w a v i h.0 here none h.1, h.2, set_more s order w a h.0 h.2 b h.3)
set_again s order w a v i d b here sets none (inr h) = inr (h.0, none_by_other s order w a i here none h.1)

marked_event : (s : Spanned) (order : List ℕ) (w a v i : ℕ) (d : Bool) → slice_get order w ≡ Some i → SetsFlags s.events a d i → (WritesTo s.events a i → ⊥) → Holds s order w a v → Holds s order (suc w) a (marked d v)
marked_event s order w a v i d here sets none (inl (inl h)) =
    inr (v, d, inl (h.0, last_by_other s order w a v i h.0 here none h.1, i, has_set s order w a v h.0 i d here sets h.1), refl)
marked_event s order w a v i d here sets none (inl (inr h)) = inr (v, d, inr (h.0, none_by_other s order w a i here none h.1), refl)
marked_event s order w a v i d here sets none (inr h) =
    inr (h.0, d || h.1, set_again s order w a h.0 i d h.1 here sets none h.2, ap (marked d) h.3 ∙ marked_again d h.1 h.0)

after_write : (s : Spanned) (order : List ℕ) → IsOrder s order → (w a v i : ℕ) (x : Event) → slice_get order w ≡ Some i → slice_get s.events i ≡ Some x →
    Holds s order w a v → Holds s order (suc w) a (written a v x)
after_write s order is w a v i (Write q addr new) here there h =
    elim (cases_Bool (addr == a)) [
      | inl t ↦ subst (Holds s order (suc w) a) (sym (ap (λ b. cond b new v) t)) (own_event s order is w a new i here (q, there ∙ ap (λ n. Some (Write q n new)) (eqb-true addr a t)))
      | inr f ↦ subst (Holds s order (suc w) a) (sym (ap (λ b. cond b new v) f)) (other_event s order w a v i here
          (no_write s a i (Write q addr new) there (λ r u e. let same : addr ≡ a = cc in let no : true ≡ false = sym (eq-eqb addr a same) ∙ f in absurd (cc))) h)
    ]
after_write s order is w a v i (Access q flags la outcome ws) here there h = other_event s order w a v i here (no_write s a i _ there (λ r u e. absurd (cc))) h
after_write s order is w a v i (Assist q flags la word ws) here there h =
    let none : WritesTo s.events a i → ⊥ = no_write s a i _ there (λ r u e. absurd (cc)) in
    elim (cases_Bool (word == a)) [
      | inl t ↦
          let sets : SetsFlags s.events a (says_dirty flags) i = (Assist q flags la word ws, there, (q, flags, la, ws, ap (λ n. Assist q flags la n ws) (eqb-true word a t), refl)) in
          subst (Holds s order (suc w) a) (sym (ap (λ b. cond b (marked (says_dirty flags) v) v) t)) (marked_event s order w a v i (says_dirty flags) here sets none h)
      | inr f ↦ subst (Holds s order (suc w) a) (sym (ap (λ b. cond b (marked (says_dirty flags) v) v) f)) (other_event s order w a v i here none h)
    ]
after_write s order is w a v i (MovCr3 q operand) here there h = other_event s order w a v i here (no_write s a i _ there (λ r u e. absurd (cc))) h
after_write s order is w a v i (Invlpg q la) here there h = other_event s order w a v i here (no_write s a i _ there (λ r u e. absurd (cc))) h
after_write s order is w a v i (Invpcid q kind pcid la) here there h = other_event s order w a v i here (no_write s a i _ there (λ r u e. absurd (cc))) h
after_write s order is w a v i (MovCr4Pge q on) here there h = other_event s order w a v i here (no_write s a i _ there (λ r u e. absurd (cc))) h

leaf_memory : (st : State) (p : ℕ) (o : Option Translation) (a : ℕ) → (with_leaf st p o).memory a ≡ st.memory a
leaf_memory st p None a = refl
leaf_memory st p (Some t) a = refl

drop_memory : (st : State) (p : ℕ) (member : Member) (a : ℕ) → (without st p member).memory a ≡ st.memory a
drop_memory st p (members.Structure x) a = refl
drop_memory st p (members.Translation x) a = refl

pub memory_holds : (s : Spanned) (order : List ℕ) → IsOrder s order → (past : List Step) → Came s order past → (a : ℕ) →
    Holds s order (count past) a ((state_after s.head past).memory a)
memory_holds s order is [] came a = inl (inr (refl, λ i to before. let lt : before.0 < 0 = before.1 in omega (arith, lt)))
memory_holds s order is (Fill4 p la ∷ past) came a = memory_holds s order is past came.0 a
memory_holds s order is (Fill3 p la from ∷ past) came a = memory_holds s order is past came.0 a
memory_holds s order is (Fill2 p la from ∷ past) came a = memory_holds s order is past came.0 a
memory_holds s order is (FillLeaf p la level from ∷ past) came a =
    subst (Holds s order (count past) a) (sym (leaf_memory (state_after s.head past) p _ a)) (memory_holds s order is past came.0 a)
memory_holds s order is (Drop p member ∷ past) came a =
    subst (Holds s order (count past) a) (sym (drop_memory (state_after s.head past) p member a)) (memory_holds s order is past came.0 a)
memory_holds s order is (Do e ∷ past) came a =
    let at : IsAt s order (count past) e = came.1 in
    let v : ℕ = (state_after s.head past).memory a in
    subst (Holds s order (suc (count past)) a) (sym (written_same e at.event at.same a v))
    (after_write s order is (count past) a v at.number at.event at.place at.there (memory_holds s order is past came.0 a))

-- what is supposed to come before an event that has come has come, and what is supposed to come
-- after one that has not come has not
module _ (s : Spanned) (order : List ℕ) (is : IsOrder s order) (slot : Slot) (w : ℕ) (here : IsFront s slot.p order w slot.next) (keeps : Keeps order slot.edges.now) where
  supposed_past : (j : ℕ) → IsSupposedPast s slot j → Before order w j
  supposed_past j h =
      let second : Before order w h.edge.second = here.come h.edge.second h.own h.came in
      subst (Before order w) h.first (front_by s order is w h.edge.first h.edge.second second (keeps h.edge h.there))

  supposed_later : (j : ℕ) → IsSupposedLater s slot j → Before order w j → ⊥
  supposed_later j h b =
      let first : Before order w h.edge.first = front_by s order is w h.edge.first h.edge.second (subst (Before order w) (sym h.second) b) (keeps h.edge h.there) in
      let lt : h.edge.first < slot.next = here.below h.edge.first h.own first in
      omega (arith, lt, h.waits)

module _ (s : Spanned) (order : List ℕ) (is : IsOrder s order) (slot : Slot) (w : ℕ) (own : IsOwn s.events slot.p slot.next) (here : IsFront s slot.p order w slot.next)
    (ended : (j : ℕ) → j < slot.ended → Before order w j) (keeps : Keeps order slot.edges.now) where
  next_left : Before order w slot.next → ⊥
  next_left b = let lt : slot.next < slot.next = here.below slot.next own b in omega (arith, lt)

  past_came : (i : ℕ) → IsPast s slot i → Before order w i
  past_came i past = elim past [
    | inl lt ↦ ended i lt
    | inr other ↦ elim other [ inl mine ↦ here.come i mine.1 mine.0 | inr supposed ↦ supposed_past s order is slot w here keeps i supposed ]
  ]

  -- what has come in the order is not to come
  not_to_come : (i : ℕ) → Before order w i → IsToCome s slot i → ⊥
  not_to_come i came to_come = elim to_come [
    | inl e ↦ next_left (subst (Before order w) e came)
    | inr other ↦ elim other [
      | inl must ↦ next_left (front s order is w slot.next i came must)
      | inr supposed ↦ supposed_later s order is slot w here keeps i supposed came
    ]
  ]

  may_be_last : (a v m : ℕ) → IsLast s order w a v m → MayBeLast s slot a v m
  may_be_last a v m h = record {
    writes = h.writes;
    came = not_to_come m h.came;
    last = λ i to past must. h.last i to (past_came i past) must;
  }

  -- an event that comes after another need not precede it
  need_not : (m j : ℕ) → StandsBefore order m j → MustPrecede s j m → ⊥
  need_not m j b must =
      let turned : StandsBefore order j m = is.keeps j m must in
      let first : b.place ≡ turned.later = once s order is b.place turned.later m b.first turned.second in
      let second : b.later ≡ turned.place = once s order is b.later turned.place j b.second turned.first in
      omega (arith, b.rises, turned.rises, first, second)

  -- what is left in an order may be left in the slot
  may_be_left : (a v : ℕ) → Left s order w a v → MayBeLeft s slot a v
  may_be_left a v (inl h) = inl (h.0, may_be_last a v h.0 h.1)
  may_be_left a v (inr h) = inr (h.0, λ i to past. h.1 i to (past_came i past))

  may_be_marked : (a v : ℕ) (flag : Bool) → Marked s order w a v flag → MayBeMarked s slot a v flag
  may_be_marked a v flag (inl h) =
      inl (h.0, may_be_last a v h.0 h.1, h.2, record { sets = h.3.sets; came = not_to_come h.2 h.3.came; behind = need_not h.0 h.2 h.3.behind })
  may_be_marked a v flag (inr h) = inr (h.0, λ i to past. h.1 i to (past_came i past))

-- what holds in an order may hold in the slot
pub may_hold : (s : Spanned) (order : List ℕ) → IsOrder s order → (slot : Slot) (w a v : ℕ) → IsOwn s.events slot.p slot.next → IsFront s slot.p order w slot.next →
    ((j : ℕ) → j < slot.ended → Before order w j) → Keeps order slot.edges.now → Holds s order w a v → MayHold s slot a v
may_hold s order is slot w a v own here ended keeps (inl h) = inl (may_be_left s order is slot w own here ended keeps a v h)
may_hold s order is slot w a v own here ended keeps (inr h) = inr (h.0, h.1, may_be_marked s order is slot w own here ended keeps a h.0 h.1 h.2, h.3)
