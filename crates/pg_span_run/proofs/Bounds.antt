-- Bounds of places, taken one place more at a time.
use Rattle.std.proofs.Common.{◌≡◌, ℕ, ◌+◌, ◌-◌, ◌<◌, ◌≤◌, List, [], ◌∷◌, ◌++◌, length, get_or, sym, ◌∙◌, ap, subst, arith, inl, inr, Some, max}
use Rattle.std.specs.Prelude.{slice_get, set}
use Rattle.std.proofs.lemmas.List.{get_or_push, get_or-set_same, get_or-set_other}
use Rattle.std.proofs.Math.ListN.{get_or-append}
use Rattle.std.specs.Option.{option_map}
use Rattle.std.proofs.lemmas.Bool.{cases_lt, cases_eq}
use Rattle.std.proofs.lemmas.Option.{slice_get-get_or}
use Rattle.pg_event.specs.declared.event.Event.{Event}
use Rattle.pg_event.specs.Form.{processor_of}
use Rattle.pg_span_run.specs.Orders.{AreOfOneProcessor}
use Rattle.pg_span_run.specs.Places.{IsBoundOf, KeepsSpans, KeepsPrograms}

-- the numbers below one
abbrev pub Below : ℕ → ℕ → Type 0
Below m j = j < m

pub none_below : (places : List ℕ) → IsBoundOf (Below 0) places 0
none_below places v = (λ h j none. absurd (omega (arith, none)), λ h. omega arith)

-- one number more
pub one_more : (places : List ℕ) (m bound : ℕ) → IsBoundOf (Below m) places bound → IsBoundOf (Below (m + 1)) places (max bound (get_or places m 0 + 1))
one_more places m bound h v = (
  λ low j before. elim (cases_lt j m) [
    | inl less ↦ (h v).0 (omega (arith, low)) j less
    | inr more ↦ let same : j ≡ m = omega (arith, before, more) in omega (arith, low, ap (λ k. get_or places k 0) same)
  ],
  λ all. let first : bound ≤ v = (h v).1 (λ j less. all j (omega (arith, less))) in let last : get_or places m 0 < v = all m (omega arith) in omega (arith, first, last),
)

-- a bound of each prefix, and one more of them
pub bounds_more : (places bounds : List ℕ) (n bound : ℕ) → length bounds ≡ n → ((m : ℕ) → m < n → IsBoundOf (Below m) places (get_or bounds m 0)) → IsBoundOf (Below n) places bound → (m : ℕ) → m < n + 1 →
    IsBoundOf (Below m) places (get_or (bounds ++ bound ∷ []) m 0)
bounds_more places bounds n bound count each last m lt = elim (cases_lt m n) [
  | inl less ↦ let same : get_or (bounds ++ bound ∷ []) m 0 ≡ get_or bounds m 0 = get_or-append bounds (bound ∷ []) 0 m (omega (arith, less, count)) in subst (IsBoundOf (Below m) places) (sym same) (each m less)
  | inr more ↦
      let here : m ≡ n = omega (arith, lt, more) in
      let same : get_or (bounds ++ bound ∷ []) m 0 ≡ bound = get_or_push bounds bound 0 m (omega (arith, count, here)) in
      subst (λ k. IsBoundOf (Below k) places (get_or (bounds ++ bound ∷ []) m 0)) (sym here) (subst (IsBoundOf (Below n) places) (sym same) last)
]

-- the next event stands after what ended before it
pub spans_more : (backs places : List ℕ) (n bound : ℕ) → IsBoundOf (Below (n - get_or backs n 0)) places bound → bound ≤ get_or places n 0 →
    ((j i : ℕ) → i < n → j < i - get_or backs i 0 → get_or places j 0 < get_or places i 0) → (j i : ℕ) → i < n + 1 → j < i - get_or backs i 0 → get_or places j 0 < get_or places i 0
spans_more backs places n bound is low kept j i lt ended = elim (cases_lt i n) [
  | inl less ↦ kept j i less ended
  | inr more ↦
      let here : i ≡ n = omega (arith, lt, more) in
      let before : j < n - get_or backs n 0 = subst (λ k. j < k - get_or backs k 0) here ended in
      subst (λ k. get_or places j 0 < get_or places k 0) (sym here) ((is (get_or places n 0)).0 low j before)
]

-- it does not
pub spans_broken : (backs places : List ℕ) (n bound : ℕ) → n < length backs → IsBoundOf (Below (n - get_or backs n 0)) places bound → get_or places n 0 < bound → KeepsSpans backs places → ⊥
spans_broken backs places n bound within is high kept =
    let low : bound ≤ get_or places n 0 = (is (get_or places n 0)).1 (λ j before. kept j n within before) in
    omega (arith, low, high)

-- the events of a processor below a number
pub record Of (events : List Event) (p m j : ℕ) : Type 0 where
  pub below : j < m
  pub own : option_map processor_of (slice_get events j) ≡ Some p

pub none_of : (events : List Event) (p : ℕ) (places : List ℕ) (bound : ℕ) → bound ≡ 0 → IsBoundOf (Of events p 0) places bound
none_of events p places bound zero v = (λ h j none. absurd (omega (arith, none.below)), λ h. omega (arith, zero))

-- an event of another processor
other_of : (events : List Event) (p q m : ℕ) (places : List ℕ) (bound : ℕ) → option_map processor_of (slice_get events m) ≡ Some q → (p ≡ q → ⊥) → IsBoundOf (Of events p m) places bound → IsBoundOf (Of events p (m + 1)) places bound
other_of events p q m places bound own other h v = (
  λ low j one. elim (cases_lt j m) [
    | inl less ↦ (h v).0 low j (record { below = less; own = one.own })
    | inr more ↦ absurd (other (some_same p q (sym one.own ∙ (ap (λ k. option_map processor_of (slice_get events k)) (last j m one.below more) ∙ own))))
  ],
  λ all. (h v).1 (λ j one. all j (record { below = omega (arith, one.below); own = one.own })),
)
  where
    some_same : (x y : ℕ) → Some x ≡ Some y → x ≡ y
    some_same x y h = cc

    last : (j m : ℕ) → j < m + 1 → m ≤ j → j ≡ m
    last j m a b = omega (arith, a, b)

-- an event of its own, which stands after those before it
own_of : (events : List Event) (p m : ℕ) (places : List ℕ) (bound : ℕ) → option_map processor_of (slice_get events m) ≡ Some p → bound ≤ get_or places m 0 → IsBoundOf (Of events p m) places bound → IsBoundOf (Of events p (m + 1)) places (get_or places m 0 + 1)
own_of events p m places bound own behind h v = (
  λ low j one. elim (cases_lt j m) [
    | inl less ↦ let before : get_or places j 0 < get_or places m 0 = (h (get_or places m 0)).0 behind j (record { below = less; own = one.own }) in omega (arith, before, low)
    | inr more ↦ let same : j ≡ m = omega (arith, one.below, more) in omega (arith, low, ap (λ k. get_or places k 0) same)
  ],
  λ all. let last : get_or places m 0 < v = all m (record { below = omega arith; own = own }) in omega (arith, last),
)

-- the bounds of all processors, with one event more
pub programs_bounds : (events : List Event) (places bounds : List ℕ) (n q : ℕ) → option_map processor_of (slice_get events n) ≡ Some q → q < length bounds → get_or bounds q 0 ≤ get_or places n 0 →
    ((p : ℕ) → p < length bounds → IsBoundOf (Of events p n) places (get_or bounds p 0)) → (p : ℕ) → p < length bounds → IsBoundOf (Of events p (n + 1)) places (get_or (set bounds q (get_or places n 0 + 1)) p 0)
programs_bounds events places bounds n q own within behind each p lt = elim (cases_eq p q) [
  | inl same ↦
      let new : get_or (set bounds q (get_or places n 0 + 1)) p 0 ≡ get_or places n 0 + 1 = ap (λ k. get_or (set bounds q (get_or places n 0 + 1)) k 0) same ∙ get_or-set_same bounds q (get_or places n 0 + 1) 0 within in
      let made : IsBoundOf (Of events q (n + 1)) places (get_or places n 0 + 1) = own_of events q n places (get_or bounds q 0) own behind (each q within) in
      subst (λ b. IsBoundOf (Of events p (n + 1)) places b) (sym new) (subst (λ k. IsBoundOf (Of events k (n + 1)) places (get_or places n 0 + 1)) (sym same) made)
  | inr other ↦
      let old : get_or (set bounds q (get_or places n 0 + 1)) p 0 ≡ get_or bounds p 0 = get_or-set_other bounds q p (get_or places n 0 + 1) 0 other in
      subst (λ b. IsBoundOf (Of events p (n + 1)) places b) (sym old) (other_of events p q n places (get_or bounds p 0) own other (each p lt))
]

pub programs_more : (events : List Event) (places : List ℕ) (n q bound : ℕ) → option_map processor_of (slice_get events n) ≡ Some q → IsBoundOf (Of events q n) places bound → bound ≤ get_or places n 0 →
    ((j i : ℕ) → i < n → j < i → AreOfOneProcessor events j i → get_or places j 0 < get_or places i 0) → (j i : ℕ) → i < n + 1 → j < i → AreOfOneProcessor events j i → get_or places j 0 < get_or places i 0
programs_more events places n q bound own is behind kept j i lt before alike = elim (cases_lt i n) [
  | inl less ↦ kept j i less before alike
  | inr more ↦
      let here : i ≡ n = omega (arith, lt, more) in
      let one : Of events q n j = record { below = omega (arith, before, here); own = alike ∙ (ap (λ k. option_map processor_of (slice_get events k)) here ∙ own) } in
      subst (λ k. get_or places j 0 < get_or places k 0) (sym here) ((is (get_or places n 0)).0 behind j one)
]

pub programs_broken : (events : List Event) (places : List ℕ) (n q bound : ℕ) → n < length events → option_map processor_of (slice_get events n) ≡ Some q → IsBoundOf (Of events q n) places bound → get_or places n 0 < bound → KeepsPrograms events places → ⊥
programs_broken events places n q bound within own is high kept =
    let low : bound ≤ get_or places n 0 = (is (get_or places n 0)).1 (λ j one. kept j n within one.below (one.own ∙ sym own)) in
    omega (arith, low, high)

pub own_at : (events : List Event) (i : ℕ) (e : Event) (p : ℕ) → i < length events → e ≡ get_or events i e → p ≡ processor_of e → option_map processor_of (slice_get events i) ≡ Some p
own_at events i e p lt is same = ap (option_map processor_of) (slice_get-get_or events i e lt ∙ ap Some (sym is)) ∙ ap Some (sym same)
