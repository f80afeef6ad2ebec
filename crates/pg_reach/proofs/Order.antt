-- Spans of which each lies after those before it.
use Rattle.std.proofs.Common.{◌≡◌, ℕ, ◌+◌, ◌<◌, ◌≤◌, min, List, [], ◌∷◌, ◌++◌, length, slice_index_or, take, inl, inr, sym, ◌∙◌, subst, arith, Some, None}
use Rattle.std.specs.List.{All, Contains}
use Rattle.std.proofs.lemmas.Bool.{cases_lt}
use Rattle.std.proofs.lemmas.List.{get_or_append_left, get_or_push, get_or-take, get_or_default, length-append, length-take}
use Rattle.std.proofs.lemmas.List.Elements.{All-get_or, Contains-get_or}
use Rattle.pg_event.specs.declared.control.Control.{Control}
use Rattle.pg_timeline.specs.declared.timeline.Span.{Span}
use Rattle.pg_reach.specs.Stays.{AreInOrder, IsCountTo, IsWithin, IsLatest}

-- one more, after them all
pub order_push : (xs : List (Span Control)) (s : Span Control) → AreInOrder xs → All (λ x. x.to < s.from) xs → s.from ≤ s.to → AreInOrder (xs ++ s ∷ [])
order_push xs s h before some =
    let count : length (xs ++ s ∷ []) ≡ length xs + 1 = length-append xs (s ∷ []) in
    record {
      each = λ i d lt. elim (cases_lt i (length xs)) as (λ _. (slice_index_or (xs ++ s ∷ []) i d).from ≤ (slice_index_or (xs ++ s ∷ []) i d).to) [
        | inl here ↦ subst (λ (x : Span Control). x.from ≤ x.to) (sym (get_or_append_left xs (s ∷ []) d i here)) (h.each i d here)
        | inr past ↦ subst (λ (x : Span Control). x.from ≤ x.to) (sym (get_or_push xs s d i (omega (arith, past, lt, count)))) some
      ];
      next = λ i j d less lt.
          let early : i < length xs = omega (arith, less, lt, count) in
          let left = get_or_append_left xs (s ∷ []) d i early in
          elim (cases_lt j (length xs)) as (λ _. (slice_index_or (xs ++ s ∷ []) i d).to < (slice_index_or (xs ++ s ∷ []) j d).from) [
            | inl here ↦ subst (λ (x : Span Control). x.to < (slice_index_or (xs ++ s ∷ []) j d).from) (sym left) (subst (λ (y : Span Control). (slice_index_or xs i d).to < y.from) (sym (get_or_append_left xs (s ∷ []) d j here)) (h.next i j d less here))
            | inr past ↦ subst (λ (x : Span Control). x.to < (slice_index_or (xs ++ s ∷ []) j d).from) (sym left)
                (subst (λ (y : Span Control). (slice_index_or xs i d).to < y.from) (sym (get_or_push xs s d j (omega (arith, past, lt, count)))) (All-get_or (λ (x : Span Control). x.to < s.from) xs i d early before))
          ];
    }

-- those before a span end before it begins
pub before_next : (xs : List (Span Control)) (i : ℕ) (d : Span Control) → AreInOrder xs → i < length xs → (x : Span Control) → Contains (take i xs) x → x.to < (slice_index_or xs i d).from
before_next xs i d h lt x here =
    let k : ℕ = here.0 in
    let less : k < i = omega (arith, here.1, length-take i xs) in
    let is : slice_index_or xs k d ≡ x = get_or_default xs k d x (omega (arith, less, lt)) ∙ sym (get_or-take i xs k x less) ∙ here.2 in
    subst (λ (y : Span Control). y.to < (slice_index_or xs i d).from) is (h.next k i d less lt)

-- which of the spans has a moment

none_to : (xs : List (Span Control)) (to : ℕ) → IsCountTo xs to 0 → (w : ℕ) → w ≤ to → IsWithin xs w → ⊥
none_to xs to h w high here =
    let x : Span Control = here.0 in
    let later : to < x.from = subst (λ (y : Span Control). to < y.from) here.1.2 (h.behind here.1.0 x (omega arith) here.1.1) in
    omega (arith, later, here.2, high)

last_to : (xs : List (Span Control)) (to n : ℕ) (d : Span Control) → AreInOrder xs → IsCountTo xs to (n + 1) → (w : ℕ) → w ≤ to → IsWithin xs w → w ≤ (slice_index_or xs n d).to
last_to xs to n d order h w high here =
    let x : Span Control = here.0 in
    let k : ℕ = here.1.0 in
    let last : n < length xs = omega (arith, h.within) in
    let is : slice_index_or xs k d ≡ x = get_or_default xs k d x here.1.1 ∙ here.1.2 in
    let mine : w ≤ (slice_index_or xs k d).to = subst (λ (y : Span Control). w ≤ y.to) (sym is) here.3 in
    elim (cases_lt k n) as (λ _. w ≤ (slice_index_or xs n d).to) [
      | inl less ↦ omega (arith, mine, order.next k n d less last, order.each n d last)
      | inr past ↦ elim (cases_lt n k) as (λ _. w ≤ (slice_index_or xs n d).to) [
        | inl more ↦
            let later : to < x.from = subst (λ (y : Span Control). to < y.from) here.1.2 (h.behind k x (omega (arith, more)) here.1.1) in
            absurd (omega (arith, later, here.2, high))
        | inr same ↦ let e : k ≡ n = omega (arith, past, same) in subst (λ i. w ≤ (slice_index_or xs i d).to) e mine
      ]
    ]

pub latest_none : (xs : List (Span Control)) (at to : ℕ) → IsCountTo xs to 0 → IsLatest xs at to None
latest_none xs at to h = λ w low high here. none_to xs to h w high here

pub latest_early : (xs : List (Span Control)) (at to n : ℕ) (d : Span Control) → AreInOrder xs → IsCountTo xs to (n + 1) → min (slice_index_or xs n d).to to < at → IsLatest xs at to None
latest_early xs at to n d order h early = λ w low high here. omega (arith, last_to xs to n d order h w high here, early, low, high)

pub latest_there : (xs : List (Span Control)) (at to n : ℕ) (d : Span Control) → AreInOrder xs → IsCountTo xs to (n + 1) → at ≤ min (slice_index_or xs n d).to to → IsLatest xs at to (Some (min (slice_index_or xs n d).to to))
latest_there xs at to n d order h low =
    let last : n < length xs = omega (arith, h.within) in (
      low,
      omega arith,
      (slice_index_or xs n d, Contains-get_or xs n d last, omega (arith, h.before n d (omega arith), order.each n d last), omega arith),
      λ w from high here. omega (arith, last_to xs to n d order h w high here, high),
    )

-- halving

pub count_right : (xs : List (Span Control)) (moment middle : ℕ) (d : Span Control) → AreInOrder xs → middle < length xs → (slice_index_or xs middle d).from ≤ moment → (i : ℕ) (e : Span Control) → i < middle + 1 → (slice_index_or xs i e).from ≤ moment
count_right xs moment middle d order within begins i e lt =
    let there : (slice_index_or xs middle e).from ≤ moment = subst (λ (x : Span Control). x.from ≤ moment) (get_or_default xs middle d e within) begins in
    elim (cases_lt i middle) as (λ _. (slice_index_or xs i e).from ≤ moment) [
      | inl less ↦ omega (arith, order.next i middle e less within, order.each i e (omega (arith, less, within)), there)
      | inr past ↦ let is : i ≡ middle = omega (arith, past, lt) in subst (λ k. (slice_index_or xs k e).from ≤ moment) (sym is) there
    ]

pub count_left : (xs : List (Span Control)) (moment middle : ℕ) (d : Span Control) → AreInOrder xs → middle < length xs → moment < (slice_index_or xs middle d).from → (i : ℕ) (e : Span Control) → middle ≤ i → i < length xs → moment < (slice_index_or xs i e).from
count_left xs moment middle d order within begins i e low lt =
    let there : moment < (slice_index_or xs middle e).from = subst (λ (x : Span Control). moment < x.from) (get_or_default xs middle d e within) begins in
    elim (cases_lt middle i) as (λ _. moment < (slice_index_or xs i e).from) [
      | inl less ↦ omega (arith, order.next middle i e less lt, order.each middle e within, there)
      | inr past ↦ let is : i ≡ middle = omega (arith, past, low) in subst (λ k. moment < (slice_index_or xs k e).from) (sym is) there
    ]
