-- Whether a number in a window passes a test.
use Rattle.std.proofs.Common.{◌≡◌, ℕ, suc, zero, ◌+◌, ◌-◌, ◌<◌, ◌≤◌, Bool, true, false, not, ◌&&◌, ◌||◌, nat_lt, nat_le, nat_eq, min, Option, Some, None, refl, ap, sym, ◌∙◌, arith, inl, inr}
use Rattle.std.specs.Option.{is_some, unwrap_or, option_or}
use Rattle.std.proofs.lemmas.Bool.{cases_eq, or_cases, or_left, or_right, and_parts, and_from, leb-true, le-leb, ltb-true, lt-ltb, eqb-true, eq-eqb, false≢true, false_from_ne_true}
use Rattle.pg_event.specs.Witness.{any_from}
use Rattle.pg_timeline.specs.Timelines.{IsLeastFrom}
use Rattle.pg_inval.specs.Lists.{IsFirstDrop, IsLeastBetween}

pub same_truth : (x y : Bool) → (x ≡ true → y ≡ true) → (y ≡ true → x ≡ true) → x ≡ y
same_truth true true f g = refl
same_truth true false f g = sym (f refl)
same_truth false true f g = g refl
same_truth false false f g = refl

pub neither : (a b : Bool) → a ≡ false → b ≡ false → (a || b) ≡ false
neither a b e f = ap (λ x. x || b) e ∙ f

pub not-not : (x : Bool) → not (not x) ≡ x
not-not true = refl
not-not false = refl

-- one number in the window that passes
pub any_from-at : (test : ℕ → Bool) (a n j : ℕ) → a ≤ j → j < a + n → test j ≡ true → any_from test a n ≡ true
any_from-at test a zero j low high h = absurd (omega arith)
any_from-at test a (suc n) j low high h =
    elim (cases_eq a j) [
      | inl e ↦ or_left (test a) (any_from test (a + 1) n) (ap test e ∙ h)
      | inr ne ↦
          let low' : a + 1 ≤ j = omega arith in
          let high' : j < a + 1 + n = omega arith in
          or_right (test a) (any_from test (a + 1) n) (any_from-at test (a + 1) n j low' high' h)
    ]

pub record Passes (test : ℕ → Bool) (a b : ℕ) : Type 0 where
  pub at : ℕ
  pub low : a ≤ at
  pub high : at < b
  pub passes : test at ≡ true

pub any_from-passes : (test : ℕ → Bool) (a n : ℕ) → any_from test a n ≡ true → Passes test a (a + n)
any_from-passes test a zero h = absurd (false≢true h)
any_from-passes test a (suc n) h =
    elim (or_cases (test a) (any_from test (a + 1) n) h) [
      | inl now ↦ record { at = a; low = omega arith; high = omega arith; passes = now }
      | inr later ↦
          let r = any_from-passes test (a + 1) n later in
          record { at = r.at; low = omega (arith, r.low); high = omega (arith, r.high); passes = r.passes }
    ]

-- two tests that agree at each number pass in the same windows
pub any_from-same : (p q : ℕ → Bool) (from n : ℕ) → ((j : ℕ) → p j ≡ q j) → any_from p from n ≡ any_from q from n
any_from-same p q from zero h = refl
any_from-same p q from (suc n) h = ap (λ b. b || any_from p (from + 1) n) (h from) ∙ ap (λ b. q from || b) (any_from-same p q (from + 1) n h)

pub any_from-none : (from n : ℕ) → any_from (λ j. false) from n ≡ false
any_from-none from zero = refl
any_from-none from (suc n) = any_from-none (from + 1) n

-- a window, and one number more
abbrev pub within : ℕ → ℕ → ℕ → Bool
within from to j = nat_le from j && nat_lt j to

pub is_within : (from to j : ℕ) → from ≤ j → j < to → within from to j ≡ true
is_within from to j low high = and_from (nat_le from j) (nat_lt j to) (le-leb from j low) (lt-ltb j to high)

-- one number more that passes, where something holds
pub any_from-more : (old : ℕ → Bool) (m : ℕ) (b : Bool) (from to : ℕ) →
    any_from (λ j. old j || (nat_eq m j && b)) from (to - from) ≡ (any_from old from (to - from) || (within from to m && b))
any_from-more old m b from to =
    let new : ℕ → Bool = λ j. old j || (nat_eq m j && b) in
    same_truth (any_from new from (to - from)) (any_from old from (to - from) || (within from to m && b))
    (λ h.
    let r = any_from-passes new from (to - from) h in
    let high : r.at < from + (to - from) = r.high in
    let low : from ≤ r.at = r.low in
    elim (or_cases (old r.at) (nat_eq m r.at && b) r.passes) [
      | inl before ↦ or_left (any_from old from (to - from)) (within from to m && b) (any_from-at old from (to - from) r.at low high before)
      | inr now ↦
          let both = and_parts (nat_eq m r.at) b now in
          let same : m ≡ r.at = eqb-true m r.at both.0 in
          let below : m < to = omega arith in
          or_right (any_from old from (to - from)) (within from to m && b) (and_from (within from to m) b (is_within from to m (omega arith) below) both.1)
    ])
    (λ h.
    elim (or_cases (any_from old from (to - from)) (within from to m && b) h) [
      | inl before ↦
          let r = any_from-passes old from (to - from) before in
          any_from-at new from (to - from) r.at r.low r.high (or_left (old r.at) (nat_eq m r.at && b) r.passes)
      | inr now ↦
          let both = and_parts (within from to m) b now in
          let edges = and_parts (nat_le from m) (nat_lt m to) both.0 in
          let low : from ≤ m = leb-true from m edges.0 in
          let high : m < to = ltb-true m to edges.1 in
          any_from-at new from (to - from) m low (omega arith) (or_right (old m) (nat_eq m m && b) (and_from (nat_eq m m) b (eq-eqb m m refl) both.1))
    ])

-- numbers below one alone
pub any_from-below : (old : ℕ → Bool) (w from to : ℕ) → any_from (λ j. old j && nat_lt j w) from (to - from) ≡ any_from old from (min to w - from)
any_from-below old w from to =
    let cut : ℕ → Bool = λ j. old j && nat_lt j w in
    same_truth (any_from cut from (to - from)) (any_from old from (min to w - from))
    (λ h.
    let r = any_from-passes cut from (to - from) h in
    let high : r.at < from + (to - from) = r.high in
    let low : from ≤ r.at = r.low in
    let both = and_parts (old r.at) (nat_lt r.at w) r.passes in
    let below : r.at < w = ltb-true r.at w both.1 in
    any_from-at old from (min to w - from) r.at low (omega arith) both.0)
    (λ h.
    let r = any_from-passes old from (min to w - from) h in
    let high : r.at < from + (min to w - from) = r.high in
    let low : from ≤ r.at = r.low in
    let below : r.at < w = omega arith in
    any_from-at cut from (to - from) r.at low (omega arith) (and_from (old r.at) (nat_lt r.at w) r.passes (lt-ltb r.at w below)))

-- ---- the first number of a window that passes

abbrev windows : (ℕ → Bool) → ℕ → ℕ → Bool
windows test a b = any_from test a (b - a)

none_before : (test : ℕ → Bool) (from to : ℕ) → ((j : ℕ) → from ≤ j → j < to → test j ≡ false) → windows test from to ≡ false
none_before test from to h =
    false_from_ne_true (windows test from to) (λ passes.
    let r = any_from-passes test from (to - from) passes in
    let low : from ≤ r.at = r.low in
    let high : r.at < from + (to - from) = r.high in
    false≢true (sym (h r.at low (omega arith)) ∙ r.passes))

one_wide : (test : ℕ → Bool) (m : ℕ) → test m ≡ true → windows test m (m + 1) ≡ true
one_wide test m h = any_from-at test m (m + 1 - m) m (omega arith) (omega arith) h

-- the least number of a window is the first in it
pub IsFirstDrop-least : (test : ℕ → Bool) (from to : ℕ) (found : Option ℕ) → IsLeastBetween test from to found → IsFirstDrop (windows test) from to found
IsFirstDrop-least test from to None least = none_before test from to least
IsFirstDrop-least test from to (Some m) least = (least.0, least.1, none_before test from m least.3, one_wide test m least.2)

-- whether there is one
pub is_some-dropped : (test : ℕ → Bool) (from to : ℕ) (found : Option ℕ) → IsFirstDrop (windows test) from to found → is_some found ≡ windows test from to
is_some-dropped test from to None first = sym first
is_some-dropped test from to (Some m) first =
    let low : from ≤ m = first.0 in
    let high : m < to = first.1 in
    let r = any_from-passes test m (m + 1 - m) first.3 in
    let at : r.at ≡ m = omega (arith, r.low, r.high) in
    sym (any_from-at test from (to - from) r.at (omega arith) (omega arith) r.passes)

-- windows that agree have the same first number
pub IsFirstDrop-same : (f g : ℕ → ℕ → Bool) (from to : ℕ) (found : Option ℕ) → ((a b : ℕ) → f a b ≡ g a b) → IsFirstDrop f from to found → IsFirstDrop g from to found
IsFirstDrop-same f g from to None h first = sym (h from to) ∙ first
IsFirstDrop-same f g from to (Some m) h first = (first.0, first.1, sym (h from m) ∙ first.2, sym (h m (m + 1)) ∙ first.3)

-- ---- the least number of a window

-- two tests that agree from its start on have the same
pub IsLeastBetween-same : (p q : ℕ → Bool) (from to : ℕ) (found : Option ℕ) → ((j : ℕ) → from ≤ j → p j ≡ q j) → IsLeastBetween p from to found → IsLeastBetween q from to found
IsLeastBetween-same p q from to None h least = λ j low high. sym (h j low) ∙ least j low high
IsLeastBetween-same p q from to (Some m) h least = (
  least.0,
  least.1,
  sym (h m least.0) ∙ least.2,
  λ j low high. sym (h j low) ∙ least.3 j low high,
)

-- where there is none from the start of the window on
pub IsLeastBetween-none : (test : ℕ → Bool) (from to : ℕ) → IsLeastFrom test from None → IsLeastBetween test from to None
IsLeastBetween-none test from to least = λ j low high. least j low

-- where one test has a least number, the other need only be tried below it
pub IsLeastBetween-both : (p q : ℕ → Bool) (from to : ℕ) (found more : Option ℕ) → IsLeastBetween p from to found → IsLeastBetween q from (unwrap_or found to) more →
    IsLeastBetween (λ j. p j || q j) from to (option_or more found)
IsLeastBetween-both p q from to None None first second = λ j low high. neither (p j) (q j) (first j low high) (second j low high)
IsLeastBetween-both p q from to None (Some n) first second = (
  second.0,
  second.1,
  or_right (p n) (q n) second.2,
  λ j low high. neither (p j) (q j) (first j low (omega (arith, high, second.1))) (second.3 j low high),
)
IsLeastBetween-both p q from to (Some m) None first second = (
  first.0,
  first.1,
  or_left (p m) (q m) first.2,
  λ j low high. neither (p j) (q j) (first.3 j low high) (second j low high),
)
IsLeastBetween-both p q from to (Some m) (Some n) first second =
    let below : n < m = second.1 in
    let inside : m < to = first.1 in (
      second.0,
      omega arith,
      or_right (p n) (q n) second.2,
      λ j low high. neither (p j) (q j) (first.3 j low (omega arith)) (second.3 j low high),
    )
