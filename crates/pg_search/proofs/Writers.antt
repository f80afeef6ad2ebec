-- The last write of a word, event by event.
use Rattle.std.proofs.Common.{◌≡◌, ℕ, zero, suc, ◌+◌, ◌-◌, ◌≤◌, Bool, true, false, ◌||◌, List, length, Option, Some, None, refl, sym, ap, subst, ◌∙◌, arith, min, inl, inr}
use Rattle.std.proofs.lemmas.Bool.{cases_lt}
use Rattle.std.proofs.lemmas.Option.{slice_get_past}
use Rattle.std.specs.Prelude.{slice_get}
use Rattle.pg_event.specs.declared.event.Event.{Event}
use Rattle.pg_event.specs.Witness.{any_from}
use Rattle.pg_search.specs.Writers.{writes_some, is_written, IsWriter}

-- a window with one number more at its end
pub any_from-last : (test : ℕ → Bool) (from n : ℕ) → any_from test from (suc n) ≡ (any_from test from n || test (from + n))
any_from-last test from zero = or_false (test from) ∙ ap test (sym (plus_zero from))
  where
    or_false : (b : Bool) → (b || false) ≡ b
    or_false true = refl
    or_false false = refl

    plus_zero : (n : ℕ) → n + 0 ≡ n
    plus_zero n = omega arith
any_from-last test from (suc n) =
    ap (λ b. test from || b) (any_from-last test (from + 1) n)
    ∙ (assoc (test from) (any_from test (from + 1) n) (test (from + 1 + n))
    ∙ ap (λ k. any_from test from (suc n) || test k) (moved from n))
  where
    assoc : (a b c : Bool) → (a || (b || c)) ≡ ((a || b) || c)
    assoc true b c = refl
    assoc false b c = refl

    moved : (from n : ℕ) → from + 1 + n ≡ from + suc n
    moved from n = omega arith

-- no event from one number up to, not with, another writes the word, nor does the next
pub is_written-next : (events : List Event) (a from to : ℕ) → from ≤ to → is_written events a from to ≡ false → writes_some a (slice_get events to) ≡ false → is_written events a from (to + 1) ≡ false
is_written-next events a from to h none next =
    let test : ℕ → Bool = λ j. writes_some a (slice_get events j) in
    let more : to + 1 - from ≡ suc (to - from) = omega arith in
    let last : from + (to - from) ≡ to = omega arith in
    ap (any_from test from) more
    ∙ (any_from-last test from (to - from)
    ∙ (ap (λ b. b || test (from + (to - from))) none
    ∙ (ap test last ∙ next)))

pub writer-passed : (events : List Event) (a w : ℕ) (found : Option ℕ) → IsWriter events a w found → writes_some a (slice_get events w) ≡ false → IsWriter events a (w + 1) found
writer-passed events a w None h next = is_written-next events a 0 w (omega arith) h next
writer-passed events a w (Some j) h next = (omega (arith, h.0), h.1, is_written-next events a (j + 1) w (omega (arith, h.0)) h.2 next)

pub writer-found : (events : List Event) (a w : ℕ) → writes_some a (slice_get events w) ≡ true → IsWriter events a (w + 1) (Some w)
writer-found events a w h =
    let none : w + 1 - (w + 1) ≡ 0 = omega arith in
    (omega arith, h, ap (any_from (λ j. writes_some a (slice_get events j)) (w + 1)) none)

writer-further : (events : List Event) (a w n : ℕ) (found : Option ℕ) → length events ≤ w → IsWriter events a w found → IsWriter events a (w + n) found
writer-further events a w zero found h is = subst (λ k. IsWriter events a k found) (same w) is
  where
    same : (w : ℕ) → w ≡ w + 0
    same w = omega arith
writer-further events a w (suc n) found h is =
    let before : IsWriter events a (w + n) found = writer-further events a w n found h is in
    let most : length events ≤ w + n = omega arith in
    subst (λ k. IsWriter events a k found) (next w n)
    (writer-passed events a (w + n) found before (ap (writes_some a) (slice_get_past events (w + n) most)))
  where
    next : (w n : ℕ) → w + n + 1 ≡ w + suc n
    next w n = omega arith

-- after the last event nothing is written
pub writer-past : (events : List Event) (a w moment : ℕ) (found : Option ℕ) → length events ≤ w → w ≤ moment → IsWriter events a w found → IsWriter events a moment found
writer-past events a w moment found h le is =
    let same : w + (moment - w) ≡ moment = omega arith in
    subst (λ k. IsWriter events a k found) same (writer-further events a w (moment - w) found h is)

-- the last write below a moment, where the events up to it or up to their end were looked at
pub writer-whole : (events : List Event) (a i end moment : ℕ) (found : Option ℕ) → end ≡ min moment (length events) → i ≡ end → IsWriter events a i found → IsWriter events a moment found
writer-whole events a i end moment found e same is =
    elim (cases_lt moment (length events)) [
      | inl lt ↦
          let here : i ≡ moment = omega arith in
          subst (λ k. IsWriter events a k found) here is
      | inr le ↦
          let most : length events ≤ i = omega arith in
          let low : i ≤ moment = omega arith in
          writer-past events a i moment found most low is
    ]
