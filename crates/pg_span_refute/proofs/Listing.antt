-- Lists of writes.
use Rattle.std.proofs.Common.{◌≡◌, ◌⊎◌, ℕ, zero, suc, ◌+◌, ◌<◌, Bool, true, false, List, [], ◌∷◌, ◌++◌, length, get_or, take, refl, ap, sym, ◌∙◌, subst, arith, inl, inr, Some}
use Rattle.std.specs.Prelude.{slice_get}
use Rattle.std.proofs.lemmas.List.{take_more, length-take, length-append}
use Rattle.std.proofs.lemmas.Option.{slice_get_within}
use Rattle.pg_entry.specs.Kinds.{marked}
use Rattle.pg_event.specs.declared.event.Event.{Event}
use Rattle.pg_event.specs.declared.event.Event.TheVariants.{Write, Assist}
use Rattle.pg_event.specs.Form.{says_dirty}
use Rattle.pg_machine.specs.Machine.{IsIn}
use Rattle.pg_span_run.specs.Orders.{Spanned}
use Rattle.pg_span_refute.specs.declared.slot.Slot.{Slot}
use Rattle.pg_span_refute.specs.declared.words.Assisted.{Assisted}
use Rattle.pg_span_refute.specs.declared.words.Written.{Written}
use Rattle.pg_span_refute.specs.Memory.{Writes, IsToCome, MayBeLast, MayBeUnwritten, SetsFlagsOf, MayHaveSet, MayHold}
use Rattle.pg_span_refute.specs.Words.{WritesValue, AreWritesTo, AreAssistsOf, AreBelow, AreAllIn, IsMarkedIn, IsOverwritten, IsWritten, IsHeldIn}
use Rattle.pg_span_refute.proofs.Taken.{in_left, in_right, in_either}

some_event : (x y : Event) → Some x ≡ Some y → x ≡ y
some_event x y h = cc

-- what stands at a place of a longer list
got_front : (xs : List Event) (e : Event) (j : ℕ) → j < length xs → slice_get (xs ++ e ∷ []) j ≡ slice_get xs j
got_front [] e j lt = absurd (omega (arith, lt))
got_front (x ∷ xs) e zero lt = refl
got_front (x ∷ xs) e (suc j) lt = got_front xs e j (omega (arith, lt))

got_last : (xs : List Event) (e : Event) → slice_get (xs ++ e ∷ []) (length xs) ≡ Some e
got_last [] e = refl
got_last (x ∷ xs) e = got_last xs e

got_within : (xs : List Event) (e x : Event) (j : ℕ) → slice_get (xs ++ e ∷ []) j ≡ Some x → (slice_get xs j ≡ Some x) ⊎ ((j ≡ length xs) × (e ≡ x))
got_within [] e x zero h = inr (refl, some_event e x h)
got_within [] e x (suc j) h = absurd (cc)
got_within (y ∷ ys) e x zero h = inl h
got_within (y ∷ ys) e x (suc j) h = elim (got_within ys e x j h) [ inl a ↦ inl a | inr b ↦ inr (ap suc b.0, b.1) ]

-- no event
pub none_written : (a : ℕ) → AreWritesTo [] a []
none_written a = record { all = λ v j w. absurd (nothing j (Write w.0 a v) w.1); only = λ w h. absurd h }
  where
    nothing : (j : ℕ) (e : Event) → slice_get (let es : List Event = [] in es) j ≡ Some e → ⊥
    nothing j e h = cc

-- one more event, which writes to the word or does not
written_more : (events : List Event) (a : ℕ) (writes : List Written) (e : Event) (v : ℕ) → AreWritesTo events a writes → WritesValue a v e →
    AreWritesTo (events ++ e ∷ []) a (writes ++ record { number = length events; value = v } ∷ [])
written_more events a writes e v are is = record {
  all = λ u j w. elim (got_within events e (Write w.0 a u) j w.1) [
    | inl h ↦ in_left (record { number = j; value = u }) writes _ (are.all u j (w.0, h))
    | inr h ↦ in_right (record { number = j; value = u }) writes _ (inl (this u j (value_is u w.0 (sym is.1 ∙ h.1)) h.0))
  ];
  only = λ w h. elim (in_either w writes _ h) [
    | inl k ↦ let before : Writes events a w.value w.number = are.only w k in
        (before.0, got_front events e w.number (slice_get_within events w.number (Write before.0 a w.value) before.1) ∙ before.1)
    | inr k ↦ elim k [
      | inl same ↦ subst (λ (x : Written). Writes (events ++ e ∷ []) a x.value x.number) same (is.0, got_last events e ∙ ap Some is.1)
      | inr none ↦ absurd none
    ]
  ];
}
  where
    value_is : (u q : ℕ) → Write is.0 a v ≡ Write q a u → v ≡ u
    value_is u q h = cc

    this : (u j : ℕ) → v ≡ u → j ≡ length events → (let w : Written = record { number = length events; value = v } in w) ≡ record { number = j; value = u }
    this u j same at = ap (λ n. let w : Written = record { number = length events; value = n } in w) same ∙ ap (λ n. let w : Written = record { number = n; value = u } in w) (sym at)

unwritten_more : (events : List Event) (a : ℕ) (writes : List Written) (e : Event) → AreWritesTo events a writes → ((v : ℕ) → WritesValue a v e → ⊥) → AreWritesTo (events ++ e ∷ []) a writes
unwritten_more events a writes e are not_one = record {
  all = λ u j w. elim (got_within events e (Write w.0 a u) j w.1) [
    | inl h ↦ are.all u j (w.0, h)
    | inr h ↦ absurd (not_one u (w.0, h.1))
  ];
  only = λ w h. let before : Writes events a w.value w.number = are.only w h in
      (before.0, got_front events e w.number (slice_get_within events w.number (Write before.0 a w.value) before.1) ∙ before.1);
}

-- the same, of the first events of a list
front_is : (events : List Event) (n : ℕ) (e : Event) → n < length events → e ≡ get_or events n e → take (n + 1) events ≡ take n events ++ e ∷ []
front_is events n e lt is = take_more events n e lt ∙ ap (λ x. take n events ++ x ∷ []) (sym is)

pub write_seen : (events : List Event) (a n : ℕ) (writes : List Written) (e : Event) (v : ℕ) → n < length events → e ≡ get_or events n e → AreWritesTo (take n events) a writes → WritesValue a v e →
    AreWritesTo (take (n + 1) events) a (writes ++ record { number = n; value = v } ∷ [])
write_seen events a n writes e v lt is are one =
    let count : length (take n events) ≡ n = omega (arith, length-take n events, lt) in
    subst (λ es. AreWritesTo es a (writes ++ record { number = n; value = v } ∷ [])) (sym (front_is events n e lt is))
    (subst (λ k. AreWritesTo (take n events ++ e ∷ []) a (writes ++ record { number = k; value = v } ∷ [])) count (written_more (take n events) a writes e v are one))

pub other_seen : (events : List Event) (a n : ℕ) (writes : List Written) (e : Event) → n < length events → e ≡ get_or events n e → AreWritesTo (take n events) a writes → ((v : ℕ) → WritesValue a v e → ⊥) →
    AreWritesTo (take (n + 1) events) a writes
other_seen events a n writes e lt is are not_one =
    subst (λ es. AreWritesTo es a writes) (sym (front_is events n e lt is)) (unwritten_more (take n events) a writes e are not_one)

pub are_below : (events : List Event) (a : ℕ) (writes : List Written) → AreWritesTo events a writes → AreBelow (length events) writes
are_below events a writes are w h = let to : Writes events a w.value w.number = are.only w h in slice_get_within events w.number (Write to.0 a w.value) to.1

-- ---- assists

pub none_assisted : (a : ℕ) → AreAssistsOf [] a []
none_assisted a = record { all = λ d j h. absurd (nothing j h.0 h.1); below = λ x h. absurd h }
  where
    nothing : (j : ℕ) (e : Event) → slice_get (let es : List Event = [] in es) j ≡ Some e → ⊥
    nothing j e h = cc

-- one more event, which is an assist of the word or is not
assisted_more : (events : List Event) (a : ℕ) (assists : List Assisted) (e : Event) (d : Bool) → AreAssistsOf events a assists → SetsFlagsOf a d e →
    AreAssistsOf (events ++ e ∷ []) a (assists ++ record { number = length events; dirty = d } ∷ [])
assisted_more events a assists e d are is = record {
  all = λ b j h. elim (got_within events e h.0 j h.1) [
    | inl k ↦ in_left (record { number = j; dirty = b }) assists _ (are.all b j (h.0, k, h.2))
    | inr k ↦ in_right (record { number = j; dirty = b }) assists _ (inl (this b j (flag_is b h.0 k.1 h.2) k.0))
  ];
  below = λ x h. elim (in_either x assists _ h) [
    | inl k ↦ let low : x.number < length events = are.below x k in omega (arith, low, length-append events (e ∷ []))
    | inr k ↦ elim k [
      | inl same ↦ let at : length events ≡ x.number = ap (λ (y : Assisted). y.number) same in omega (arith, at, length-append events (e ∷ []))
      | inr none ↦ absurd none
    ]
  ];
}
  where
    flag_is : (b : Bool) (x : Event) → e ≡ x → SetsFlagsOf a b x → d ≡ b
    flag_is b x same h =
        let both : Assist is.0 is.1 is.2 a is.3 ≡ Assist h.0 h.1 h.2 a h.3 = sym is.4 ∙ (same ∙ h.4) in
        let flags : is.1 ≡ h.1 = flags_of both in
        sym is.5 ∙ (ap says_dirty flags ∙ h.5)
      where
        flags_of : Assist is.0 is.1 is.2 a is.3 ≡ Assist h.0 h.1 h.2 a h.3 → is.1 ≡ h.1
        flags_of k = cc

    this : (b : Bool) (j : ℕ) → d ≡ b → j ≡ length events → (let x : Assisted = record { number = length events; dirty = d } in x) ≡ record { number = j; dirty = b }
    this b j same at = ap (λ n. let x : Assisted = record { number = length events; dirty = n } in x) same ∙ ap (λ n. let x : Assisted = record { number = n; dirty = b } in x) (sym at)

unassisted_more : (events : List Event) (a : ℕ) (assists : List Assisted) (e : Event) → AreAssistsOf events a assists → ((d : Bool) → SetsFlagsOf a d e → ⊥) → AreAssistsOf (events ++ e ∷ []) a assists
unassisted_more events a assists e are not_one = record {
  all = λ b j h. elim (got_within events e h.0 j h.1) [
    | inl k ↦ are.all b j (h.0, k, h.2)
    | inr k ↦ absurd (not_one b (subst (SetsFlagsOf a b) (sym k.1) h.2))
  ];
  below = λ x h. let low : x.number < length events = are.below x h in omega (arith, low, length-append events (e ∷ []));
}

pub assist_seen : (events : List Event) (a n : ℕ) (assists : List Assisted) (e : Event) (d : Bool) → n < length events → e ≡ get_or events n e → AreAssistsOf (take n events) a assists → SetsFlagsOf a d e →
    AreAssistsOf (take (n + 1) events) a (assists ++ record { number = n; dirty = d } ∷ [])
assist_seen events a n assists e d lt is are one =
    let count : length (take n events) ≡ n = omega (arith, length-take n events, lt) in
    subst (λ es. AreAssistsOf es a (assists ++ record { number = n; dirty = d } ∷ [])) (sym (front_is events n e lt is))
    (subst (λ k. AreAssistsOf (take n events ++ e ∷ []) a (assists ++ record { number = k; dirty = d } ∷ [])) count (assisted_more (take n events) a assists e d are one))

pub no_assist_seen : (events : List Event) (a n : ℕ) (assists : List Assisted) (e : Event) → n < length events → e ≡ get_or events n e → AreAssistsOf (take n events) a assists →
    ((d : Bool) → SetsFlagsOf a d e → ⊥) → AreAssistsOf (take (n + 1) events) a assists
no_assist_seen events a n assists e lt is are not_one =
    subst (λ es. AreAssistsOf es a assists) (sym (front_is events n e lt is)) (unassisted_more (take n events) a assists e are not_one)

-- ---- values

-- what is known of a write once it was looked at
abbrev pub IsSeen : Spanned → Slot → List Written → List Assisted → List ℕ → Written → Type 0
IsSeen s slot writes assists values w = IsToCome s slot w.number ⊎ (IsOverwritten s slot writes w.number ⊎ IsHeldIn s slot assists w values)

held_still : (s : Spanned) (slot : Slot) (assists : List Assisted) (w : Written) (values more : List ℕ) → AreAllIn values more → IsHeldIn s slot assists w values → IsHeldIn s slot assists w more
held_still s slot assists w values more all h = record {
  plain = all w.value h.plain;
  flagged = λ d. elim (h.flagged d) [ inl none ↦ inl none | inr there ↦ inr (all (marked d w.value) there) ];
}

pub seen_still : (s : Spanned) (slot : Slot) (writes : List Written) (assists : List Assisted) (values more : List ℕ) (w : Written) → AreAllIn values more → IsSeen s slot writes assists values w → IsSeen s slot writes assists more w
seen_still s slot writes assists values more w all (inl a) = inl a
seen_still s slot writes assists values more w all (inr (inl b)) = inr (inl b)
seen_still s slot writes assists values more w all (inr (inr h)) = inr (inr (held_still s slot assists w values more all h))

-- what a word may hold is among the values of writes that may be the last, and what they are with
-- flags, or 0
module _ (s : Spanned) (slot : Slot) (a : ℕ) (writes : List Written) (assists : List Assisted) (values : List ℕ) (are : AreWritesTo s.events a writes) (sets : AreAssistsOf s.events a assists)
    (each : (w : Written) → IsIn w writes → IsSeen s slot writes assists values w) (zero_in : IsWritten s slot writes ⊎ IsMarkedIn 0 values) where
  held_of : (v m : ℕ) → MayBeLast s slot a v m → IsHeldIn s slot assists (record { number = m; value = v }) values
  held_of v m last = elim (each (record { number = m; value = v }) (are.all v m last.writes)) [
    | inl to_come ↦ absurd (last.came to_come)
    | inr rest ↦ elim rest [
      | inl over ↦ absurd (last.last over.by.number (over.by.value, are.only over.by over.there) over.past over.follows)
      | inr held ↦ held
    ]
  ]

  zero_of : MayBeUnwritten s slot a → IsMarkedIn 0 values
  zero_of none = elim zero_in [
    | inl written ↦ absurd (none written.by.number (written.by.value, are.only written.by written.there) written.past)
    | inr there ↦ there
  ]

  flagged_in : (u m j : ℕ) (d : Bool) → MayBeLast s slot a u m → MayHaveSet s slot a d m j → IsIn (marked d u) values
  flagged_in u m j d last set = elim ((held_of u m last).flagged d) [
    | inl none ↦ elim (none (record { number = j; dirty = d }) (sets.all d j set.sets) refl) [
      | inl to_come ↦ absurd (set.came to_come)
      | inr must ↦ absurd (set.behind must)
    ]
    | inr there ↦ there
  ]

  pub held_value : (v : ℕ) → MayHold s slot a v → IsIn v values
  held_value v (inl (inl h)) = (held_of v h.0 h.1).plain
  held_value v (inl (inr h)) = subst (λ n. IsIn n values) (sym h.0) (zero_of h.1).plain
  held_value v (inr (u, d, inl h, is)) = subst (λ n. IsIn n values) (sym is) (flagged_in u h.0 h.2 d h.1 h.3)
  held_value v (inr (u, d, inr h, is)) = subst (λ n. IsIn n values) (sym is) (subst (λ n. IsIn (marked d n) values) (sym h.0) ((zero_of h.1).flagged d))

pub overwritten_in : (s : Spanned) (slot : Slot) (writes part : List Written) (j : ℕ) → ((w : Written) → IsIn w part → IsIn w writes) → IsOverwritten s slot part j → IsOverwritten s slot writes j
overwritten_in s slot writes part j inside over = record { by = over.by; there = inside over.by over.there; past = over.past; follows = over.follows }

-- a list to which a value and two more were added
pub pushed_more : (xs ys : List ℕ) (a b c : ℕ) → ys ≡ ((xs ++ a ∷ []) ++ b ∷ []) ++ c ∷ [] → AreAllIn xs ys
pushed_more xs ys a b c is x h = subst (IsIn x) (sym is) (in_left x ((xs ++ a ∷ []) ++ b ∷ []) (c ∷ []) (in_left x (xs ++ a ∷ []) (b ∷ []) (in_left x xs (a ∷ []) h)))

pub pushed_marked : (xs ys : List ℕ) (v b c : ℕ) → b ≡ marked false v → c ≡ marked true v → ys ≡ ((xs ++ v ∷ []) ++ b ∷ []) ++ c ∷ [] → IsMarkedIn v ys
pushed_marked xs ys v b c is_b is_c is = record {
  plain = subst (IsIn v) (sym is) (in_left v ((xs ++ v ∷ []) ++ b ∷ []) (c ∷ []) (in_left v (xs ++ v ∷ []) (b ∷ []) (in_right v xs (v ∷ []) (inl refl))));
  flagged = λ d. subst (IsIn (marked d v)) (sym is) (flag d);
}
  where
    flag : (d : Bool) → IsIn (marked d v) (((xs ++ v ∷ []) ++ b ∷ []) ++ c ∷ [])
    flag true = in_right (marked true v) ((xs ++ v ∷ []) ++ b ∷ []) (c ∷ []) (inl is_c)
    flag false = in_left (marked false v) ((xs ++ v ∷ []) ++ b ∷ []) (c ∷ []) (in_right (marked false v) (xs ++ v ∷ []) (b ∷ []) (inl is_b))
