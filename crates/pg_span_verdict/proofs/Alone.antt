-- Where two events that follow each other may come either way, there is another order.
use Rattle.std.proofs.Common.{◌≡◌, ◌⊎◌, ℕ, ◌+◌, ◌<◌, List, length, map, refl, ap, sym, subst, ◌∙◌, arith, inl, inr, Some, None, Option}
use Rattle.std.specs.Prelude.{slice_get}
use Rattle.std.specs.List.{range_with_len}
use Rattle.std.specs.Option.{option_map}
use Rattle.std.proofs.lemmas.Bool.{cases_eq, cases_lt}
use Rattle.std.proofs.lemmas.List.FromFn.{length-range_with_len, get_or-range_with_len}
use Rattle.std.proofs.lemmas.List.{length-map}
use Rattle.std.proofs.lemmas.Option.{slice_get-get_or, get_or_from_slice_get, slice_get-map}
use Rattle.pg_event.specs.Form.{processor_of}
use Rattle.pg_span_run.specs.Orders.{Spanned, MustPrecede, IsOrder, ended_before}
use Rattle.pg_span_run.specs.OrderLaws.{EachPrecedesNext, ends}
use Rattle.pg_span_run.proofs.Places.{some_same}

-- a number, but the two that follow each other are exchanged
pub record IsExchanged (i k j : ℕ) : Type 0 where
  pub one : k ≡ i → j ≡ i + 1
  pub two : k ≡ i + 1 → j ≡ i
  pub same : (k ≡ i → ⊥) → (k ≡ i + 1 → ⊥) → j ≡ k

pub exchange : (i k : ℕ) → (j : ℕ) × IsExchanged i k j
exchange i k = elim (cases_eq k i) [
  | inl e ↦ (i + 1, record { one = λ h. refl; two = λ h. absurd (omega (arith, e, h)); same = λ a b. absurd (a e) })
  | inr ne ↦ elim (cases_eq k (i + 1)) [
    | inl e ↦ (i, record { one = λ h. absurd (ne h); two = λ h. refl; same = λ a b. absurd (b e) })
    | inr other ↦ (k, record { one = λ h. absurd (ne h); two = λ h. absurd (other h); same = λ a b. refl })
  ]
]

abbrev pub exchanged : ℕ → ℕ → ℕ
exchanged i k = (exchange i k).0

-- the exchange keeps to the numbers of events, and undoes itself
stays_below : (n i k : ℕ) → i + 1 < n → k < n → exchanged i k < n
stays_below n i k lt low =
    let is : IsExchanged i k (exchanged i k) = (exchange i k).1 in
    elim (cases_eq k i) [
      | inl e ↦ omega (arith, is.one e, lt)
      | inr ne ↦ elim (cases_eq k (i + 1)) [
        | inl e ↦ omega (arith, is.two e, lt)
        | inr other ↦ omega (arith, is.same ne other, low)
      ]
    ]

back_again : (i k : ℕ) → exchanged i (exchanged i k) ≡ k
back_again i k =
    let j : ℕ = exchanged i k in
    let is : IsExchanged i k j = (exchange i k).1 in
    let again : IsExchanged i j (exchanged i j) = (exchange i j).1 in
    elim (cases_eq k i) [
      | inl e ↦ again.two (is.one e) ∙ sym e
      | inr ne ↦ elim (cases_eq k (i + 1)) [
        | inl e ↦ again.one (is.two e) ∙ sym e
        | inr other ↦
            let same : j ≡ k = is.same ne other in
            again.same (λ h. ne (sym same ∙ h)) (λ h. other (sym same ∙ h)) ∙ same
      ]
    ]

-- of two numbers that are not these two, the lesser stays the lesser
keeps_rising : (i a b : ℕ) → a < b → (a ≡ i → b ≡ i + 1 → ⊥) → exchanged i a < exchanged i b
keeps_rising i a b lt free =
    let x : IsExchanged i a (exchanged i a) = (exchange i a).1 in
    let y : IsExchanged i b (exchanged i b) = (exchange i b).1 in
    elim (cases_eq a i) [
      | inl e ↦
          let not_next : b ≡ i + 1 → ⊥ = free e in
          let not_this : b ≡ i → ⊥ = λ h. omega (arith, h, e, lt) in
          let same : exchanged i b ≡ b = y.same not_this not_next in
          omega (arith, x.one e, same, e, lt, not_next)
      | inr ne ↦ elim (cases_eq a (i + 1)) [
        | inl e ↦
            let not_next : b ≡ i + 1 → ⊥ = λ h. omega (arith, h, e, lt) in
            let not_this : b ≡ i → ⊥ = λ h. omega (arith, h, e, lt) in
            let same : exchanged i b ≡ b = y.same not_this not_next in
            omega (arith, x.two e, same, e, lt)
        | inr other ↦
            let same : exchanged i a ≡ a = x.same ne other in
            elim (cases_eq b i) [
              | inl f ↦ omega (arith, same, y.one f, f, lt)
              | inr nf ↦ elim (cases_eq b (i + 1)) [
                | inl f ↦ omega (arith, same, y.two f, f, lt, ne)
                | inr ng ↦ omega (arith, same, y.same nf ng, lt)
              ]
            ]
      ]
    ]

-- the order in which the events ended, but for the two
abbrev pub turned : Spanned → ℕ → List ℕ
turned s i = map (exchanged i) (ends s)

at_end : (n k : ℕ) → k < n → slice_get (range_with_len 0 n) k ≡ Some k
at_end n k lt = slice_get-get_or (range_with_len 0 n) k 0 (omega (arith, lt, length-range_with_len 0 n)) ∙ ap Some (get_or-range_with_len 0 n k 0 lt ∙ (omega arith))

at_turned : (s : Spanned) (i k : ℕ) → k < length s.events → slice_get (turned s i) k ≡ Some (exchanged i k)
at_turned s i k lt = slice_get-map (exchanged i) (ends s) k ∙ ap (option_map (exchanged i)) (at_end (length s.events) k lt)

stands_at : (s : Spanned) (i j : ℕ) → i + 1 < length s.events → j < length s.events → slice_get (turned s i) (exchanged i j) ≡ Some j
stands_at s i j lt low = at_turned s i (exchanged i j) (stays_below (length s.events) i j lt low) ∙ ap Some (back_again i j)

before_by : (s : Spanned) (j i : ℕ) → MustPrecede s j i → j < i
before_by s j i must = elim must.why [ inl ended ↦ omega (arith, ended) | inr own ↦ own.0 ]

turned_is_an_order : (s : Spanned) (i : ℕ) → i + 1 < length s.events → (MustPrecede s i (i + 1) → ⊥) → IsOrder s (turned s i)
turned_is_an_order s i lt free =
    let n : ℕ = length s.events in
    let count : length (turned s i) ≡ n = length-map (ends s) (exchanged i) ∙ length-range_with_len 0 n in
    record {
      count = count;
      each = λ j low. (exchanged i j, omega (arith, stays_below n i j lt low, count), get_or_from_slice_get (turned s i) (exchanged i j) j j (stands_at s i j lt low));
      keeps = λ j k must.
          let rises : j < k = before_by s j k must in
          record {
            place = exchanged i j;
            later = exchanged i k;
            rises = keeps_rising i j k rises (λ a b. free (subst (λ x. MustPrecede s x (i + 1)) a (subst (MustPrecede s j) b must)));
            first = stands_at s i j lt (omega (arith, rises, must.within));
            second = stands_at s i k lt must.within;
          };
    }

-- whether two events are of one processor, and whether one must come first, is so or not
same_or_not : (x y : Option ℕ) → (x ≡ y) ⊎ (x ≡ y → ⊥)
same_or_not None None = inl refl
same_or_not None (Some y) = inr (λ h. cc)
same_or_not (Some x) None = inr (λ h. cc)
same_or_not (Some x) (Some y) = elim (cases_eq x y) [ inl e ↦ inl (ap Some e) | inr ne ↦ inr (λ h. ne (some_same x y h)) ]

must_or_not : (s : Spanned) (i : ℕ) → i + 1 < length s.events → MustPrecede s i (i + 1) ⊎ (MustPrecede s i (i + 1) → ⊥)
must_or_not s i lt = elim (cases_lt i (ended_before s (i + 1))) [
  | inl ended ↦ inl (record { within = lt; why = inl ended })
  | inr high ↦ elim (same_or_not (option_map processor_of (slice_get s.events i)) (option_map processor_of (slice_get s.events (i + 1)))) [
    | inl own ↦ inl (record { within = lt; why = inr (omega arith, own) })
    | inr other ↦ inr (λ must. elim must.why [ inl ended ↦ absurd (omega (arith, ended, high)) | inr own ↦ other own.1 ])
  ]
]

-- where there is no other order, each event comes before the next
pub each_precedes_next : (s : Spanned) → ((order : List ℕ) → IsOrder s order → order ≡ ends s) → EachPrecedesNext s
each_precedes_next s only i lt = elim (must_or_not s i lt) [
  | inl must ↦ must
  | inr free ↦
      let same : turned s i ≡ ends s = only (turned s i) (turned_is_an_order s i lt free) in
      let low : i < length s.events = omega (arith, lt) in
      let both : Some (exchanged i i) ≡ Some i = sym (at_turned s i i low) ∙ (ap (λ xs. slice_get xs i) same ∙ at_end (length s.events) i low) in
      let is : exchanged i i ≡ i + 1 = (exchange i i).1.one refl in
      absurd (omega (arith, some_same (exchanged i i) i both, is))
]
