-- The order in which events ended.
use Rattle.std.proofs.Common.{◌≡◌, ℕ, zero, suc, ◌+◌, ◌-◌, ◌<◌, ◌≤◌, List, [], ◌∷◌, length, refl, ap, subst, ◌∙◌, arith, inl, inr, Some}
use Rattle.std.specs.Prelude.{slice_get}
use Rattle.std.specs.List.{range_with_len}
use Rattle.std.proofs.lemmas.List.FromFn.{length-range_with_len, get_or-range_with_len}
use Rattle.std.proofs.lemmas.Option.{slice_get-get_or, slice_get_within, get_or_from_slice_get}
use Rattle.pg_span_run.specs.Orders.{Spanned, MustPrecede, StandsBefore, IsOrder}
use Rattle.pg_span_run.specs.OrderLaws.{EndsAreAnOrder, EachPrecedesNext, NoOtherOrder}
use Rattle.pg_span_run.proofs.Places.{stands_once}
use Rattle.pg_span_run.proofs.Orders.{are_all}

at_end : (n i : ℕ) → i < n → slice_get (range_with_len 0 n) i ≡ Some i
at_end n i lt = slice_get-get_or (range_with_len 0 n) i 0 (omega (arith, lt, length-range_with_len 0 n)) ∙ ap Some (get_or-range_with_len 0 n i 0 lt ∙ (omega arith))

before_by : (s : Spanned) (j i : ℕ) → MustPrecede s j i → j < i
before_by s j i must = elim must.why [ inl ended ↦ omega (arith, ended) | inr own ↦ own.0 ]

pub ends_are_an_order : EndsAreAnOrder
ends_are_an_order s =
    let n : ℕ = length s.events in
    record {
      count = length-range_with_len 0 n;
      each = λ i lt. (i, omega (arith, lt, length-range_with_len 0 n), get_or_from_slice_get (range_with_len 0 n) i i i (at_end n i lt));
      keeps = λ j i must. record {
        place = j;
        later = i;
        rises = before_by s j i must;
        first = at_end n j (omega (arith, before_by s j i must, must.within));
        second = at_end n i must.within;
      };
    }

place_of : (s : Spanned) (order : List ℕ) → IsOrder s order → (i : ℕ) → i < length s.events → (k : ℕ) × (slice_get order k ≡ Some i)
place_of s order is i lt = let there = is.each i lt in (there.0, slice_get-get_or order there.0 i there.1 ∙ ap Some there.2)

-- the next event stands further on
next_rises : (s : Spanned) (order : List ℕ) → EachPrecedesNext s → IsOrder s order → (i a b : ℕ) → suc i < length s.events → slice_get order a ≡ Some i → slice_get order b ≡ Some (suc i) → a < b
next_rises s order each is i a b lt at_a at_b =
    let next : i + 1 ≡ suc i = omega arith in
    let before : StandsBefore order i (suc i) = is.keeps i (suc i) (subst (MustPrecede s i) next (each i (omega (arith, lt)))) in
    let first : before.place ≡ a = stands_once order (length s.events) (are_all s order is) before.place a i before.first at_a in
    let second : before.later ≡ b = stands_once order (length s.events) (are_all s order is) before.later b (suc i) before.second at_b in
    omega (arith, first, second, before.rises)

far_rises : (s : Spanned) (order : List ℕ) → EachPrecedesNext s → IsOrder s order → (m i a b : ℕ) → i + m < length s.events → slice_get order a ≡ Some i → slice_get order b ≡ Some (i + m) → a + m ≤ b
far_rises s order each is zero i a b lt at_a at_b =
    let same : slice_get order b ≡ Some i = at_b ∙ ap Some (let e : i + 0 ≡ i = omega arith in e) in
    omega (arith, stands_once order (length s.events) (are_all s order is) a b i at_a same)
far_rises s order each is (suc m) i a b lt at_a at_b =
    let near : i + m < length s.events = omega (arith, lt) in
    let c = place_of s order is (i + m) near in
    let up : a + m ≤ c.0 = far_rises s order each is m i a c.0 near at_a c.1 in
    let next : slice_get order b ≡ Some (suc (i + m)) = at_b ∙ ap Some (let e : i + suc m ≡ suc (i + m) = omega arith in e) in
    let last : c.0 < b = next_rises s order each is (i + m) c.0 b (omega (arith, lt)) c.1 next in
    omega (arith, up, last)

-- each event stands at its own number
own_place : (s : Spanned) (order : List ℕ) → EachPrecedesNext s → IsOrder s order → (i : ℕ) → i < length s.events → slice_get order i ≡ Some i
own_place s order each is i lt =
    let n : ℕ = length s.events in
    let first = place_of s order is 0 (omega (arith, lt)) in
    let here = place_of s order is i lt in
    let last = place_of s order is (i + (n - 1 - i)) (omega (arith, lt)) in
    let at_i : slice_get order here.0 ≡ Some (0 + i) = here.1 ∙ ap Some (let e : i ≡ 0 + i = omega arith in e) in
    let low : first.0 + i ≤ here.0 = far_rises s order each is i 0 first.0 here.0 (omega (arith, lt)) first.1 at_i in
    let high : here.0 + (n - 1 - i) ≤ last.0 = far_rises s order each is (n - 1 - i) i here.0 last.0 (omega (arith, lt)) here.1 last.1 in
    let end : last.0 < length order = slice_get_within order last.0 (i + (n - 1 - i)) last.1 in
    let same : here.0 ≡ i = omega (arith, low, high, end, lt, is.count) in
    subst (λ k. slice_get order k ≡ Some i) same here.1

from_places : (xs : List ℕ) (a : ℕ) → ((i : ℕ) → i < length xs → slice_get xs i ≡ Some (a + i)) → xs ≡ range_with_len a (length xs)
from_places [] a at = refl
from_places (x ∷ xs) a at =
    let first : x ≡ a = first_is x (a + 0) (at 0 (omega arith)) ∙ (omega arith) in
    let rest : xs ≡ range_with_len (a + 1) (length xs) = from_places xs (a + 1) (λ i lt. at (suc i) (omega (arith, lt)) ∙ ap Some (let e : a + suc i ≡ a + 1 + i = omega arith in e)) in
    ap (λ y. y ∷ xs) first ∙ ap (λ ys. a ∷ ys) rest
  where
    first_is : (x y : ℕ) → Some x ≡ Some y → x ≡ y
    first_is x y h = cc

pub no_other_order : NoOtherOrder
no_other_order s order each is =
    from_places order 0 (λ i lt. own_place s order each is i (omega (arith, lt, is.count)) ∙ ap Some (let e : i ≡ 0 + i = omega arith in e)) ∙ ap (range_with_len 0) is.count
