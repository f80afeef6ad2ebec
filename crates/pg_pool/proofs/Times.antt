-- How often a number stands in lists.
use Rattle.std.proofs.Common.{◌≡◌, ◌≢◌, ℕ, ◌+◌, ◌<◌, ◌==◌, ◌||◌, nat_lt, Bool, true, false, List, [], ◌∷◌, ◌++◌, sym, refl, ap, ◌∙◌, arith}
use Rattle.std.proofs.lemmas.Bool.Decides.{nat_tests}
use Rattle.std.proofs.lemmas.List.Sums.{sum_by-append}
use Rattle.std.proofs.Math.Decide.{ℕ_discrete}
use Rattle.pg_pool.specs.DequeRule.{times}

pub times-append : (n : ℕ) (xs ys : List ℕ) → times n (xs ++ ys) ≡ times n xs + times n ys
times-append n xs ys = sum_by-append _ xs ys

pub times-same : (n : ℕ) → times n (n ∷ []) ≡ 1
times-same n = grind (arith, nat_tests)

pub times-other : (m n : ℕ) → m ≢ n → times m (n ∷ []) ≡ 0
times-other m n apart = grind (arith, nat_tests)

positive : (n : ℕ) → 0 < n → nat_lt 0 n ≡ true
positive n h = grind (arith, nat_tests)

or_true : (b : Bool) → (b || true) ≡ true
or_true true = refl
or_true false = refl

or_false : (b : Bool) → (b || false) ≡ b
or_false true = refl
or_false false = refl

pub same_test : (m n : ℕ) → m ≡ n → (m == n) ≡ true
same_test m n e = grind (arith, nat_tests)

pub other_test : (m n : ℕ) → m ≢ n → (m == n) ≡ false
other_test m n apart = grind (arith, nat_tests)

-- a number stands somewhere once n has joined, if it did before or is n
pub some_more : (m n before after : ℕ) → after ≡ before + times m (n ∷ []) → nat_lt 0 after ≡ (nat_lt 0 before || m == n)
some_more m n before after is =
    elim (ℕ_discrete m n) [
      | yes e ↦
          positive after (omega (arith, is, ap (λ (k : ℕ). times k (n ∷ [])) e, times-same n))
          ∙ sym (ap (λ (b : Bool). nat_lt 0 before || b) (same_test m n e) ∙ or_true (nat_lt 0 before))
      | no apart ↦
          ap (nat_lt 0) (omega (arith, is, times-other m n apart))
          ∙ sym (ap (λ (b : Bool). nat_lt 0 before || b) (other_test m n apart) ∙ or_false (nat_lt 0 before))
    ]
