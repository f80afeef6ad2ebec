-- The first drop of an entry, event by event.
use Rattle.std.proofs.Common.{◌≡◌, ℕ, zero, suc, ◌+◌, ◌-◌, ◌^◌, ◌<◌, ◌≤◌, Bool, true, false, ◌||◌, cond, not, List, Option, Some, None, refl, sym, ap, subst, ◌∙◌, arith, inl, inr}
use Rattle.std.proofs.lemmas.Bool.{cases_Bool, cases_lt}
use Rattle.pg_event.specs.declared.event.Event.{Event}
use Rattle.pg_event.specs.Heads.{Head}
use Rattle.pg_event.specs.Witness.{any_from, survives}
use Rattle.pg_inval.specs.Lists.{IsFirstDrop}
use Rattle.pg_inval.proofs.AnyFrom.{not-not, any_from-at, IsFirstDrop-same}
use Rattle.pg_explain.specs.declared.dropped.CacheKey.{CacheKey}
use Rattle.pg_explain.specs.Drops.{first_from, must_drop, is_dropped_at, first_drop}

one_less : (f to : ℕ) → f < to → to - f ≡ suc (to - (f + 1))
one_less f to h = omega arith

-- the first number of a window, where it passes and where it does not
pub first_from-here : (test : ℕ → Bool) (f to : ℕ) → f < to → test f ≡ true → first_from test f (to - f) ≡ Some f
first_from-here test f to h t =
    ap (first_from test f) (one_less f to h)
    ∙ ap (λ b. cond b (Some f) (first_from test (f + 1) (to - (f + 1)))) t

pub first_from-next : (test : ℕ → Bool) (f to : ℕ) → f < to → test f ≡ false → first_from test f (to - f) ≡ first_from test (f + 1) (to - (f + 1))
first_from-next test f to h t =
    ap (first_from test f) (one_less f to h)
    ∙ ap (λ b. cond b (Some f) (first_from test (f + 1) (to - (f + 1)))) t

-- whether a number of a window passes
abbrev windows : (ℕ → Bool) → ℕ → ℕ → Bool
windows test a b = any_from test a (b - a)

first_here : (test : ℕ → Bool) (from to : ℕ) → from < to → test from ≡ true → IsFirstDrop (windows test) from to (Some from)
first_here test from to h t =
    let none : from - from ≡ 0 = omega arith in
    (omega arith, h, ap (any_from test from) none, any_from-at test from (from + 1 - from) from (omega arith) (omega arith) t)

-- where its first number does not pass, a window is that of the numbers after it
window_after : (test : ℕ → Bool) (from to : ℕ) → from < to → test from ≡ false → windows test from to ≡ windows test (from + 1) to
window_after test from to h t = ap (any_from test from) (one_less from to h) ∙ ap (λ b. b || any_from test (from + 1) (to - (from + 1))) t

first_after : (test : ℕ → Bool) (from to : ℕ) (found : Option ℕ) → from < to → test from ≡ false → IsFirstDrop (windows test) (from + 1) to found → IsFirstDrop (windows test) from to found
first_after test from to None h t first = window_after test from to h t ∙ first
first_after test from to (Some m) h t first =
    let low : from + 1 ≤ m = first.0 in
    let before : from < m = omega arith in
    (omega arith, first.1, window_after test from m before t ∙ first.2, first.3)

first_in : (test : ℕ → Bool) (n from to : ℕ) → to - from ≡ n → IsFirstDrop (windows test) from to (first_from test from n)
first_in test zero from to e = ap (any_from test from) e
first_in test (suc n) from to e =
    let h : from < to = omega (arith, e) in
    let rest : to - (from + 1) ≡ n = omega (arith, e) in
    let is : Bool → Type 0 = λ b. IsFirstDrop (windows test) from to (cond b (Some from) (first_from test (from + 1) n)) in
    elim (cases_Bool (test from)) [
      | inl passes ↦ subst is (sym passes) (first_here test from to h passes)
      | inr fails ↦ subst is (sym fails) (first_after test from to (first_from test (from + 1) n) h fails (first_in test n (from + 1) to rest))
    ]

-- the first event that must drop an entry is at the least moment at which it did not survive
pub first_drop-first : (head : Head) (events : List Event) (p : ℕ) (key : CacheKey) (from to : ℕ) (found : Option ℕ) → found ≡ first_drop head events p key from to →
    IsFirstDrop (λ a b. not (survives head events p (must_drop head.cfg.rules key) a b)) from to found
first_drop-first head events p key from to found e =
    let test : ℕ → Bool = is_dropped_at head events p key in
    let gone : ℕ → ℕ → Bool = λ a b. not (survives head events p (must_drop head.cfg.rules key) a b) in
    subst (IsFirstDrop gone from to) (sym e)
    (IsFirstDrop-same (windows test) gone from to (first_drop head events p key from to) (λ a b. sym (not-not (windows test a b)))
    (first_in test (to - from) from to refl))

-- ---- where no number passes up to some one

none_after : (a b : Bool) → (a || b) ≡ false → b ≡ false
none_after true b h = absurd (cc)
none_after false b h = h

not_here : (a b : Bool) → (a || b) ≡ false → a ≡ false
not_here true b h = absurd (cc)
not_here false b h = refl

-- nothing is found behind the window
found_none : (test : ℕ → Bool) (f to : ℕ) → to ≤ f → first_from test f (to - f) ≡ None
found_none test f to h =
    let none : to - f ≡ 0 = omega arith in
    ap (first_from test f) none

-- the first number is that of the numbers behind those that do not pass
pub first_from-skip : (test : ℕ → Bool) (n f to : ℕ) → any_from test f n ≡ false → first_from test (f + n) (to - (f + n)) ≡ first_from test f (to - f)
first_from-skip test zero f to h =
    let same : f + 0 ≡ f = omega arith in
    ap (λ k. first_from test k (to - k)) same
first_from-skip test (suc n) f to h =
    let here : f + suc n ≡ f + 1 + n = omega arith in
    elim (cases_lt f to) [
      | inl lt ↦
          ap (λ k. first_from test k (to - k)) here
          ∙ first_from-skip test n (f + 1) to (none_after (test f) (any_from test (f + 1) n) h)
          ∙ sym (first_from-next test f to lt (not_here (test f) (any_from test (f + 1) n) h))
      | inr le ↦
          found_none test (f + suc n) to (omega arith) ∙ sym (found_none test f to le)
    ]

not_false : (b : Bool) → not b ≡ false → b ≡ true
not_false true h = refl
not_false false h = absurd (cc)

not_true : (b : Bool) → not b ≡ true → b ≡ false
not_true true h = absurd (cc)
not_true false h = refl

-- what survives up to a moment is first dropped behind it
pub first_drop-after : (head : Head) (events : List Event) (p : ℕ) (key : CacheKey) (from to start : ℕ) → from ≤ start → survives head events p (must_drop head.cfg.rules key) from start ≡ true →
    first_from (is_dropped_at head events p key) start (to - start) ≡ first_drop head events p key from to
first_drop-after head events p key from to start le h =
    let test : ℕ → Bool = is_dropped_at head events p key in
    let end : from + (start - from) ≡ start = omega arith in
    ap (λ k. first_from test k (to - k)) (sym end)
    ∙ first_from-skip test (start - from) from to (not_true (any_from test from (start - from)) h)

-- an entry survives up to its first drop
abbrev pub survives_first : (ℕ → ℕ → Bool) → ℕ → Option ℕ → Type 0
survives_first lasts from found = IsFirstDrop (λ a b. not (lasts a b)) from (2 ^ 32 - 1) found

pub survives-some : (lasts : ℕ → ℕ → Bool) (from m : ℕ) → survives_first lasts from (Some m) → (from ≤ m) × (lasts from m ≡ true)
survives-some lasts from m first = (first.0, not_false (lasts from m) first.2)

pub survives-none : (lasts : ℕ → ℕ → Bool) (from : ℕ) → survives_first lasts from None → lasts from (2 ^ 32 - 1) ≡ true
survives-none lasts from first = not_false (lasts from (2 ^ 32 - 1)) first
