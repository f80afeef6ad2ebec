-- Of two lists of moments one is as fresh as the other, and so on along three.
use Rattle.std.proofs.Common.{◌≡◌, ℕ, ◌<◌, ◌++◌, ◌∙◌, Bool, true, false, ◌&&◌, ◌||◌, ◌==◌, nat_lt, List, [], ◌∷◌, reverse, refl, ap, sym, inl, inr, ◌⊎◌, ⊎_elim, arith}
use Rattle.std.proofs.lemmas.Bool.{cases_Bool, eqb-true, eq-eqb, ltb-true, lt-ltb}
use Rattle.std.proofs.lemmas.List.{reverse-append}
use Rattle.pg_search.specs.Freshness.{is_as_fresh, is_as_fresh_back}

-- the same, as a relation
abbrev IsFreshBack : List ℕ → List ℕ → Type 0
IsFreshBack [] us = Unit {0}
IsFreshBack (w ∷ ws) [] = ⊥
IsFreshBack (w ∷ ws) (u ∷ us) = (u < w) ⊎ ((w ≡ u) × IsFreshBack ws us)

back_refl : (ws : List ℕ) → IsFreshBack ws ws
back_refl [] = tt
back_refl (w ∷ ws) = inr (refl, back_refl ws)

back_trans : (ws us vs : List ℕ) → IsFreshBack ws us → IsFreshBack us vs → IsFreshBack ws vs
back_trans [] us vs h k = tt
back_trans (w ∷ ws) [] vs h k = absurd h
back_trans (w ∷ ws) (u ∷ us) [] h k = absurd k
back_trans (w ∷ ws) (u ∷ us) (v ∷ vs) (inl a) (inl b) = inl (omega (arith, a, b))
back_trans (w ∷ ws) (u ∷ us) (v ∷ vs) (inl a) (inr b) = inl (omega (arith, a, b.0))
back_trans (w ∷ ws) (u ∷ us) (v ∷ vs) (inr a) (inl b) = inl (omega (arith, a.0, b))
back_trans (w ∷ ws) (u ∷ us) (v ∷ vs) (inr a) (inr b) = inr (a.0 ∙ b.0, back_trans ws us vs a.1 b.1)

or_parts : (a b : Bool) → (a || b) ≡ true → (a ≡ true) ⊎ (b ≡ true)
or_parts true b h = inl refl
or_parts false b h = inr h

and_both : (a b : Bool) → (a && b) ≡ true → (a ≡ true) × (b ≡ true)
and_both true b h = (refl, h)
and_both false b h = absurd (cc)

back_is : (ws us : List ℕ) → is_as_fresh_back ws us ≡ true → IsFreshBack ws us
back_is [] us h = tt
back_is (w ∷ ws) [] h = absurd (cc)
back_is (w ∷ ws) (u ∷ us) h =
    ⊎_elim (λ t. inl (ltb-true u w t)) (λ b. let both = and_both (w == u) (is_as_fresh_back ws us) b in inr (eqb-true w u both.0, back_is ws us both.1))
    (or_parts (nat_lt u w) (w == u && is_as_fresh_back ws us) h)

or_right : (a b : Bool) → b ≡ true → (a || b) ≡ true
or_right true b h = refl
or_right false b h = h

back_of : (ws us : List ℕ) → IsFreshBack ws us → is_as_fresh_back ws us ≡ true
back_of [] us h = refl
back_of (w ∷ ws) [] h = absurd h
back_of (w ∷ ws) (u ∷ us) (inl lt) = ap (λ b. b || (w == u && is_as_fresh_back ws us)) (lt-ltb u w lt)
back_of (w ∷ ws) (u ∷ us) (inr same) =
    or_right (nat_lt u w) (w == u && is_as_fresh_back ws us) (ap (λ b. b && is_as_fresh_back ws us) (eq-eqb w u same.0) ∙ back_of ws us same.1)

back_total : (ws us : List ℕ) → is_as_fresh_back ws us ≡ false → IsFreshBack us ws
back_total [] us h = absurd (cc)
back_total (w ∷ ws) [] h = tt
back_total (w ∷ ws) (u ∷ us) h =
    elim (cases_Bool (nat_lt u w)) as (λ _. IsFreshBack (u ∷ us) (w ∷ ws)) [
      | inl t ↦ absurd (apart (sym (ap (λ b. b || (w == u && is_as_fresh_back ws us)) t) ∙ h))
      | inr f ↦ elim (cases_Bool (nat_lt w u)) as (λ _. IsFreshBack (u ∷ us) (w ∷ ws)) [
        | inl t ↦ inl (ltb-true w u t)
        | inr g ↦
            let same : w ≡ u = omega (arith, not_lt u w f, not_lt w u g) in
            let rest : is_as_fresh_back ws us ≡ false = sym (ap (λ b. b || (w == u && is_as_fresh_back ws us)) f ∙ ap (λ b. b && is_as_fresh_back ws us) (eq-eqb w u same)) ∙ h in
            inr (sym same, back_total ws us rest)
      ]
    ]
  where
    apart : true ≡ false → ⊥
    apart e = cc

    not_lt : (a b : ℕ) → nat_lt a b ≡ false → a < b → ⊥
    not_lt a b f lt = apart (sym (lt-ltb a b lt) ∙ f)

-- ---- what is used of it

pub fresh_refl : (ws : List ℕ) → is_as_fresh ws ws ≡ true
fresh_refl ws = back_of (reverse ws) (reverse ws) (back_refl (reverse ws))

pub fresh_trans : (ws us vs : List ℕ) → is_as_fresh ws us ≡ true → is_as_fresh us vs ≡ true → is_as_fresh ws vs ≡ true
fresh_trans ws us vs h k = back_of (reverse ws) (reverse vs) (back_trans (reverse ws) (reverse us) (reverse vs) (back_is (reverse ws) (reverse us) h) (back_is (reverse us) (reverse vs) k))

pub fresh_total : (ws us : List ℕ) → is_as_fresh ws us ≡ false → is_as_fresh us ws ≡ true
fresh_total ws us h = back_of (reverse us) (reverse ws) (back_total (reverse ws) (reverse us) h)

-- with the same moment more
pub fresh_more : (ws us : List ℕ) (w : ℕ) → is_as_fresh ws us ≡ true → is_as_fresh (ws ++ w ∷ []) (us ++ w ∷ []) ≡ true
fresh_more ws us w h =
    ap (λ xs. is_as_fresh_back xs (reverse (us ++ w ∷ []))) (reverse-append ws (w ∷ []))
    ∙ ap (is_as_fresh_back (w ∷ reverse ws)) (reverse-append us (w ∷ []))
    ∙ back_of (w ∷ reverse ws) (w ∷ reverse us) (inr (refl, back_is (reverse ws) (reverse us) h))

-- by their last moments
pub fresh_by_last : (ws us : List ℕ) (w u : ℕ) → is_as_fresh (ws ++ w ∷ []) (us ++ u ∷ []) ≡ (nat_lt u w || (w == u && is_as_fresh ws us))
fresh_by_last ws us w u = ap (λ xs. is_as_fresh_back xs (reverse (us ++ u ∷ []))) (reverse-append ws (w ∷ [])) ∙ ap (is_as_fresh_back (w ∷ reverse ws)) (reverse-append us (u ∷ []))
