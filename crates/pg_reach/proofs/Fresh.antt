-- Of two lists of moments one is as fresh, since none of the other is later.
use Rattle.std.proofs.Common.{◌≡◌, ℕ, ◌<◌, ◌≤◌, ◌^◌, ◌-◌, ◌==◌, min, nat_lt, Bool, true, false, ◌&&◌, ◌||◌, List, [], ◌∷◌, ◌++◌, reverse, Option, Some, None, refl, ap, sym, ◌∙◌, subst, inl, inr, arith}
use Rattle.std.specs.Prelude.{IfSome, IfNone, is_some}
use Rattle.std.proofs.lemmas.Bool.{cases_lt, eq-eqb, lt-ltb, or_right}
use Rattle.std.proofs.lemmas.List.{reverse-append}
use Rattle.pg_event.specs.declared.walk.Parent.{Parent}
use Rattle.pg_search.specs.Freshness.{is_as_fresh, is_as_fresh_back}
use Rattle.pg_search.proofs.Freshness.{fresh_trans, fresh_by_last}
use Rattle.pg_reach.specs.declared.reach.Reach.{Reach}
use Rattle.pg_reach.specs.Reaching.{up_to, AreOpen, AreWithin, Has, Stands, IsFresher}

within_push : (ws us : List ℕ) (w u : ℕ) → AreWithin ws us → w ≤ u → AreWithin (ws ++ w ∷ []) (us ++ u ∷ [])
within_push [] [] w u h le = (le, tt)
within_push [] (y ∷ us) w u h le = absurd h
within_push (x ∷ ws) [] w u h le = absurd h
within_push (x ∷ ws) (y ∷ us) w u h le = (h.0, within_push ws us w u h.1 le)

within_reverse : (ws us : List ℕ) → AreWithin ws us → AreWithin (reverse ws) (reverse us)
within_reverse [] [] h = tt
within_reverse [] (u ∷ us) h = absurd h
within_reverse (w ∷ ws) [] h = absurd h
within_reverse (w ∷ ws) (u ∷ us) h =
    let both : AreWithin (reverse ws ++ w ∷ []) (reverse us ++ u ∷ []) = within_push (reverse ws) (reverse us) w u (within_reverse ws us h.1) h.0 in
    subst (λ xs. AreWithin xs (reverse (u ∷ us))) (sym (reverse-append (w ∷ []) ws)) (subst (AreWithin (reverse ws ++ w ∷ [])) (sym (reverse-append (u ∷ []) us)) both)

within_back : (ws us : List ℕ) → AreWithin ws us → is_as_fresh_back us ws ≡ true
within_back [] [] h = refl
within_back [] (u ∷ us) h = absurd h
within_back (w ∷ ws) [] h = absurd h
within_back (w ∷ ws) (u ∷ us) h =
    elim (cases_lt w u) as (λ _. is_as_fresh_back (u ∷ us) (w ∷ ws) ≡ true) [
      | inl lt ↦ ap (λ b. b || (u == w && is_as_fresh_back us ws)) (lt-ltb w u lt)
      | inr le ↦ or_right (nat_lt w u) (u == w && is_as_fresh_back us ws) (ap (λ b. b && is_as_fresh_back us ws) (eq-eqb u w (omega (arith, h.0, le))) ∙ within_back ws us h.1)
    ]

pub within_fresh : (ws us : List ℕ) → AreWithin ws us → is_as_fresh us ws ≡ true
within_fresh ws us h = within_back (reverse ws) (reverse us) (within_reverse ws us h)

-- up to a later moment
pub up_to_later : (w later : ℕ) (ws : List ℕ) → w ≤ later → AreWithin (up_to w ws) (up_to later ws)
up_to_later w later [] low = tt
up_to_later w later (x ∷ xs) low = (omega (arith, low), up_to_later w later xs low)

-- up to one moment, both
up_to_both : (w : ℕ) (ws us : List ℕ) → AreWithin ws us → AreWithin (up_to w ws) (up_to w us)
up_to_both w [] [] h = tt
up_to_both w [] (u ∷ us) h = absurd h
up_to_both w (x ∷ ws) [] h = absurd h
up_to_both w (x ∷ ws) (u ∷ us) h = (omega (arith, h.0), up_to_both w ws us h.1)

pub up_to-push : (a x : ℕ) (ws : List ℕ) → up_to a (ws ++ x ∷ []) ≡ up_to a ws ++ min a x ∷ []
up_to-push a x [] = refl
up_to-push a x (y ∷ ys) = ap (λ zs. min a y ∷ zs) (up_to-push a x ys)

-- where the freshest moments are as fresh as those that end at a moment, so are those up to a later
-- one
pub later_fresh : (x : Reach) (w later : ℕ) (ws : List ℕ) → AreOpen x.latest → later < 2 ^ 32 → w ≤ later → is_as_fresh (up_to w x.latest) (ws ++ w ∷ []) ≡ true → is_as_fresh (up_to later x.latest) (ws ++ w ∷ []) ≡ true
later_fresh x w later ws next small low h =
    elim (cases_lt w later) as (λ _. is_as_fresh (up_to later x.latest) (ws ++ w ∷ []) ≡ true) [
      | inl lt ↦
          let before : List ℕ = up_to later next.0 in
          let last : min later (2 ^ 32 - 1) ≡ later = omega (arith, small) in
          let is : up_to later x.latest ≡ before ++ later ∷ [] = ap (up_to later) next.1 ∙ up_to-push later (2 ^ 32 - 1) next.0 ∙ ap (λ z. before ++ z ∷ []) last in
          ap (λ us. is_as_fresh us (ws ++ w ∷ [])) is ∙ fresh_by_last before ws later w ∙ ap (λ b. b || (later == w && is_as_fresh before ws)) (lt-ltb w later lt)
      | inr le ↦
          let same : w ≡ later = omega (arith, low, le) in
          subst (λ k. is_as_fresh (up_to k x.latest) (ws ++ w ∷ []) ≡ true) same h
    ]

-- what was found is as fresh as what is less fresh
pub fresher_on : (freshest : Bool) (found : Option (List ℕ)) (us ws : List ℕ) → IsFresher freshest found us → (freshest ≡ true → is_as_fresh us ws ≡ true) → IsFresher freshest found ws
fresher_on freshest None us ws h k = h
fresher_on freshest (Some found) us ws h k = λ f. fresh_trans found us ws (h f) (k f)

-- a reach that stands for another has its table where it has the moment
pub stands_at : (freshest : Bool) (x y : Reach) (table : Parent) (w : ℕ) (ws : List ℕ) → Stands freshest x y → y.from ≤ w → w ≤ y.to → Has freshest table w ws x → Has freshest table w ws y
stands_at freshest x y table w ws stands from to h = record {
  table = stands.table ∙ h.table;
  from = from;
  to = to;
  fresh = λ f. fresh_trans (up_to w y.latest) (up_to w x.latest) (ws ++ w ∷ []) (within_fresh (up_to w x.latest) (up_to w y.latest) (up_to_both w x.latest y.latest (stands.fresh f))) (h.fresh f);
}

-- what `found` says where it is there, and where it is not

pub freshest_of : (P : List ℕ → Type 0) (found : Option (List ℕ)) → ((ws : List ℕ) → P ws → IsFresher true found ws) → IfSome found (λ ms. (us : List ℕ) → P us → is_as_fresh ms us ≡ true)
freshest_of P None h = tt
freshest_of P (Some ms) h = λ us p. h us p refl

pub none_of : (freshest : Bool) (P : List ℕ → Type 0) (found : Option (List ℕ)) → ((ws : List ℕ) → P ws → IsFresher freshest found ws) → IfNone found ((ws : List ℕ) → P ws → ⊥)
none_of freshest P None h = h
none_of freshest P (Some ms) h = tt

-- where any are asked for, some are enough
pub some_enough : (freshest : Bool) (found : Option (List ℕ)) → is_some found ≡ true → freshest ≡ false → (ws : List ℕ) → IsFresher freshest found ws
some_enough freshest None some any ws = absurd (cc)
some_enough freshest (Some ms) some any ws = λ f. absurd (apart f any)
  where
    apart : {b : Bool} → b ≡ true → b ≡ false → ⊥
    apart h k = cc

-- moments that are as fresh as those that were found
pub newer_fresher : (freshest : Bool) (found : Option (List ℕ)) (us : List ℕ) → (freshest ≡ true → IfSome found (λ ms. is_as_fresh us ms ≡ true)) → (ws : List ℕ) → IsFresher freshest found ws → freshest ≡ true → is_as_fresh us ws ≡ true
newer_fresher freshest None us k ws h f = absurd h
newer_fresher freshest (Some ms) us k ws h f = fresh_trans us ms ws (k f) (h f)
