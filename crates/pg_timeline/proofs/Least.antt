-- The first moment of a timeline from one on is the least that it has.
use Rattle.std.proofs.Common.{◌≡◌, ℕ, ◌+◌, ◌<◌, Bool, true, false, ◌||◌, ◌&&◌, nat_lt, nat_eq, cond, List, [], ◌∷◌, ◌++◌, Option, Some, None, refl, ap, sym, ◌∙◌, arith, inl, inr}
use Rattle.std.proofs.lemmas.Bool.{cases_lt, le-leb, lt-leb, le-ltb, lt-ltb, eq-eqb, eqb-true, ne_eqb, or_left, or_right, or_from}
use Rattle.pg_timeline.specs.declared.timeline.Stamp.{Stamp}
use Rattle.pg_timeline.specs.Timelines.{first_from, cut_at, has_moment, IsLeastFrom, IsRisingFrom}

or_false : (b : Bool) → (b || false) ≡ b
or_false true = refl
or_false false = refl

or_assoc : (a b c : Bool) → (a || (b || c)) ≡ ((a || b) || c)
or_assoc true b c = refl
or_assoc false b c = refl

never : (b : Bool) → (b && false) ≡ false
never true = refl
never false = refl

kept_with : (e b c : Bool) → (e ≡ true → c ≡ true) → (e || (b && c)) ≡ ((e || b) && c)
kept_with true b c h = sym (h refl)
kept_with false b c h = refl

cut_with : (e b c : Bool) → (e ≡ true → c ≡ false) → (b && c) ≡ ((e || b) && c)
cut_with true b c h = ap (λ z. b && z) (h refl) ∙ never b ∙ sym (h refl)
cut_with false b c h = refl

module _ {V : Type 0} where
  -- no moment lies before those that rise from a number on
  has_moment-before : (n j : ℕ) (xs : List (Stamp V)) → IsRisingFrom n xs → j < n → has_moment xs j ≡ false
  has_moment-before n j [] r h = refl
  has_moment-before n j (x ∷ xs) r h =
      or_from (nat_eq x.moment j) (has_moment xs j) (ne_eqb x.moment j (λ e. omega (arith, r.0))) (has_moment-before (x.moment + 1) j xs r.1 (omega (arith, r.0)))

  later : (from m : ℕ) (x : Stamp V) (xs : List (Stamp V)) (found : Option ℕ) → x.moment < from → IsLeastFrom (has_moment xs) from found → IsLeastFrom (has_moment (x ∷ xs)) from found
  later from m x xs None h least = λ j le. or_from (nat_eq x.moment j) (has_moment xs j) (ne_eqb x.moment j (λ e. omega arith)) (least j le)
  later from m x xs (Some k) h least = (
    least.0,
    or_right (nat_eq x.moment k) (has_moment xs k) least.1,
    λ j le lt. or_from (nat_eq x.moment j) (has_moment xs j) (ne_eqb x.moment j (λ e. omega arith)) (least.2 j le lt),
  )

  least_first : (from n : ℕ) (xs : List (Stamp V)) → IsRisingFrom n xs → IsLeastFrom (has_moment xs) from (first_from from xs)
  least_first from n [] r = λ j le. refl
  least_first from n (x ∷ xs) r =
      elim (cases_lt x.moment from) [
        | inl before ↦ rw (lt-leb from x.moment before) (later from from x xs (first_from from xs) before (least_first from (x.moment + 1) xs r.1))
        | inr here ↦
            rw (le-leb from x.moment here) (
              here,
              or_left (nat_eq x.moment x.moment) (has_moment xs x.moment) (eq-eqb x.moment x.moment refl),
              λ j le lt. or_from (nat_eq x.moment j) (has_moment xs j) (ne_eqb x.moment j (λ e. omega arith)) (has_moment-before (x.moment + 1) j xs r.1 (omega arith)),
            )
      ]

  -- the first moment from one on is the least that the timeline has
  pub IsLeastFrom-first : (from : ℕ) (xs : List (Stamp V)) → IsRisingFrom 0 xs → IsLeastFrom (has_moment xs) from (first_from from xs)
  IsLeastFrom-first from xs r = least_first from 0 xs r

  -- one more stamp
  pub has_moment-push : (xs : List (Stamp V)) (s : Stamp V) (j : ℕ) → has_moment (xs ++ s ∷ []) j ≡ (has_moment xs j || nat_eq s.moment j)
  has_moment-push [] s j = or_false (nat_eq s.moment j)
  has_moment-push (x ∷ xs) s j = ap (λ b. nat_eq x.moment j || b) (has_moment-push xs s j) ∙ or_assoc (nat_eq x.moment j) (has_moment xs j) (nat_eq s.moment j)

  -- a cut leaves the moments below it
  pub has_moment-cut_at : (w : ℕ) (xs : List (Stamp V)) (j : ℕ) → has_moment (cut_at w xs) j ≡ (has_moment xs j && nat_lt j w)
  has_moment-cut_at w [] j = refl
  has_moment-cut_at w (x ∷ xs) j =
      elim (cases_lt x.moment w) [
        | inl below ↦
            ap (λ b. has_moment (cond b (x ∷ cut_at w xs) (cut_at w xs)) j) (lt-ltb x.moment w below)
            ∙ ap (λ b. nat_eq x.moment j || b) (has_moment-cut_at w xs j)
            ∙ kept_with (nat_eq x.moment j) (has_moment xs j) (nat_lt j w) (λ e. let same : x.moment ≡ j = eqb-true x.moment j e in lt-ltb j w (omega arith))
        | inr above ↦
            ap (λ b. has_moment (cond b (x ∷ cut_at w xs) (cut_at w xs)) j) (le-ltb x.moment w above)
            ∙ has_moment-cut_at w xs j
            ∙ cut_with (nat_eq x.moment j) (has_moment xs j) (nat_lt j w) (λ e. let same : x.moment ≡ j = eqb-true x.moment j e in le-ltb j w (omega arith))
      ]
