-- The order by two keys.
use Rattle.std.proofs.Common.{◌≡◌, ℕ, ◌<◌, ◌≤◌, true, false, not, ◌&&◌, ◌==◌, refl, sym, arith, inl, inr, ◌⊎◌, eq-eqb, Less, Equal, Greater}
use Rattle.std.specs.Ordering.{is_lt, nat_cmp, ordering_then}
use Rattle.std.proofs.lemmas.Bool.{cases_lt, cases_order, ne_eqb, lt-ltb, le-ltb}

below : (a b : ℕ) → a < b → nat_cmp a b ≡ Less
below a b h = rw (lt-ltb a b h) refl

level : (a b : ℕ) → a ≡ b → nat_cmp a b ≡ Equal
level a b h = rw (le-ltb a b (omega (arith, h)), eq-eqb a b h) refl

above : (a b : ℕ) → b < a → nat_cmp a b ≡ Greater
above a b h = rw (le-ltb a b (omega (arith, h)), ne_eqb a b (λ e. absurd (omega (arith, h, e)))) refl

-- neither pair is below the other exactly if they are the same
pub tied : (a b c d : ℕ) → (c == a && d == b) ≡ (not (is_lt (ordering_then (nat_cmp a c) (nat_cmp b d))) && not (is_lt (ordering_then (nat_cmp c a) (nat_cmp d b))))
tied a b c d = elim (cases_order a c) [
  | inl e ↦ elim (cases_order b d) [
    | inl f ↦ rw (level a c e, level b d f, level c a (sym e), level d b (sym f), eq-eqb c a (sym e), eq-eqb d b (sym f)) refl
    | inr g ↦ elim g [
      | inl less ↦ rw (level a c e, below b d less, eq-eqb c a (sym e), ne_eqb d b (λ h. absurd (omega (arith, less, h)))) refl
      | inr more ↦ rw (level a c e, above b d more, level c a (sym e), below d b more, eq-eqb c a (sym e), ne_eqb d b (λ h. absurd (omega (arith, more, h)))) refl
    ]
  ]
  | inr g ↦ elim g [
    | inl less ↦ rw (below a c less, ne_eqb c a (λ h. absurd (omega (arith, less, h)))) refl
    | inr more ↦ rw (above a c more, below c a more, ne_eqb c a (λ h. absurd (omega (arith, more, h)))) refl
  ]
]

pub first_by_keys : (a b c d : ℕ) → is_lt (ordering_then (nat_cmp c a) (nat_cmp d b)) ≡ false → (a < c) ⊎ ((a ≡ c) × (b ≤ d))
first_by_keys a b c d h = elim (cases_order c a) [
  | inl e ↦ elim (cases_lt d b) [
    | inl less ↦ let bad : true ≡ false = rw (level c a e, below d b less) at h in absurd (cc)
    | inr more ↦ inr (sym e, more)
  ]
  | inr g ↦ elim g [
    | inl less ↦ let bad : true ≡ false = rw (below c a less) at h in absurd (cc)
    | inr more ↦ inl more
  ]
]
