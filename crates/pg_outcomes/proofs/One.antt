-- There is one list of the outcomes of an access.
use Rattle.std.proofs.Common.{◌≡◌, ℕ, zero, suc, ◌<◌, ◌&&◌, ◌==◌, nat_lt, true, false, List, [], ◌∷◌, length, get_or, reverse, refl, ap, sym, ◌∙◌, subst, inl, inr, ◌⊎◌, arith}
use Rattle.std.specs.List.{All, Any, AllPairs}
use Rattle.std.proofs.lemmas.Bool.{cases_Bool, or_cases, and_parts, eqb-true, ltb-true}
use Rattle.std.proofs.lemmas.List.{reverse-reverse}
use Rattle.pg_event.specs.declared.event.Event.{Event}
use Rattle.pg_event.specs.declared.event.Outcome.{Outcome}
use Rattle.pg_event.specs.declared.event.Outcome.TheVariants.{Page, Fault}
use Rattle.pg_event.specs.Spelling.{Recorded}
use Rattle.pg_search.specs.Changes.{WitnessedAmongKept}
use Rattle.pg_search.specs.Freshness.{is_as_fresh, is_as_fresh_back}
use Rattle.pg_search.specs.Law.{AreWitness}
use Rattle.pg_outcomes.specs.declared.allowed.Allowed.{Allowed}
use Rattle.pg_reach.specs.Placed.{with_outcome}
use Rattle.pg_outcomes.specs.Allowing.{IsAllowed, IsBefore, IsTold}
use Rattle.pg_outcomes.specs.Law.{OutcomesAmongKept, OutcomesAreOne}

-- ---- moments

back_antisym : (ws us : List ℕ) → is_as_fresh_back ws us ≡ true → is_as_fresh_back us ws ≡ true → ws ≡ us
back_antisym [] [] h k = refl
back_antisym [] (u ∷ us) h k = absurd cc
back_antisym (w ∷ ws) [] h k = absurd cc
back_antisym (w ∷ ws) (u ∷ us) h k =
    elim (cases_Bool (nat_lt u w)) as (λ _. w ∷ ws ≡ u ∷ us) [
      | inl t ↦ elim (or_cases (nat_lt w u) (u == w && is_as_fresh_back us ws) k) as (λ _. w ∷ ws ≡ u ∷ us) [
        | inl s ↦ let below = ltb-true u w t in let above = ltb-true w u s in absurd (omega (arith, below, above))
        | inr s ↦ let both = and_parts (u == w) (is_as_fresh_back us ws) s in let below = ltb-true u w t in let same = eqb-true u w both.0 in absurd (omega (arith, below, same))
      ]
      | inr f ↦ elim (or_cases (nat_lt u w) (w == u && is_as_fresh_back ws us) h) as (λ _. w ∷ ws ≡ u ∷ us) [
        | inl t ↦ let both : true ≡ false = sym t ∙ f in absurd cc
        | inr s ↦
            let both = and_parts (w == u) (is_as_fresh_back ws us) s in
            let same = eqb-true w u both.0 in
            elim (or_cases (nat_lt w u) (u == w && is_as_fresh_back us ws) k) as (λ _. w ∷ ws ≡ u ∷ us) [
              | inl r ↦ let above = ltb-true w u r in absurd (omega (arith, above, same))
              | inr r ↦
                  let other = and_parts (u == w) (is_as_fresh_back us ws) r in
                  let rest = back_antisym ws us both.1 other.1 in
                  ap (λ n. n ∷ ws) same ∙ ap (λ ns. u ∷ ns) rest
            ]
      ]
    ]

-- of two lists that are as fresh as one another
pub fresh_antisym : (ws us : List ℕ) → is_as_fresh ws us ≡ true → is_as_fresh us ws ≡ true → ws ≡ us
fresh_antisym ws us h k = sym (reverse-reverse ws) ∙ ap reverse (back_antisym (reverse ws) (reverse us) h k) ∙ reverse-reverse us

-- ---- lists that rise

not_both : (o p : Outcome) → IsBefore o p → IsBefore p o → ⊥
not_both (Page a) (Page b) h k = omega (arith, h, k)
not_both (Page a) (Fault d) h k = k
not_both (Fault c) (Page b) h k = h
not_both (Fault c) (Fault d) h k = omega (arith, h, k)

abbrev HasOutcome : Outcome → Allowed → Type 0
HasOutcome o x = x.outcome ≡ o

abbrev Rise : List Allowed → Type 0
Rise xs = AllPairs (λ (x y : Allowed). IsBefore x.outcome y.outcome) xs

abbrev FirstOrLater : Outcome → Allowed → List Allowed → Type 0
FirstOrLater o x xs = HasOutcome o x ⊎ Any (HasOutcome o) xs

first_or_later : (o : Outcome) (x : Allowed) (xs : List Allowed) → Any (HasOutcome o) (x ∷ xs) → FirstOrLater o x xs
first_or_later o x xs h = by h.0 h.1 h.2 h.3 h.4
  where
    by : (k : ℕ) (z : Allowed) → k < length (x ∷ xs) → get_or (x ∷ xs) k z ≡ z → z.outcome ≡ o → FirstOrLater o x xs
    by zero z lt at is = inl (subst (HasOutcome o) (sym at) is)
    by (suc k) z lt at is = inr (k, z, omega (arith, lt), at, is)

is_first : (x : Allowed) (xs : List Allowed) → Any (HasOutcome x.outcome) (x ∷ xs)
is_first x xs = (0, x, omega arith, refl, refl)

is_later : (o : Outcome) (x : Allowed) (xs : List Allowed) → Any (HasOutcome o) xs → Any (HasOutcome o) (x ∷ xs)
is_later o x xs h = (suc h.0, h.1, omega (arith, h.2), h.3, h.4)

before_later : (o : Outcome) (x : Allowed) (xs : List Allowed) → Rise (x ∷ xs) → Any (HasOutcome o) xs → IsBefore x.outcome o
before_later o x xs rise h =
    let next : IsBefore x.outcome (get_or xs h.0 h.1).outcome = rise 0 (suc h.0) h.1 (omega arith) (omega (arith, h.2)) in
    subst (IsBefore x.outcome) (ap (λ (z : Allowed). z.outcome) h.3 ∙ h.4) next

rest_rises : (x : Allowed) (xs : List Allowed) → Rise (x ∷ xs) → Rise xs
rest_rises x xs rise i j d lt within = rise (suc i) (suc j) d (omega (arith, lt)) (omega (arith, within))

-- each outcome of the one is one of the other
abbrev AreAmong : List Allowed → List Allowed → Type 0
AreAmong xs ys = (o : Outcome) → Any (HasOutcome o) xs → Any (HasOutcome o) ys

none_later : (x : Allowed) (xs : List Allowed) → AreAmong (x ∷ xs) [] → ⊥
none_later x xs among = let h = among x.outcome (is_first x xs) in omega (arith, h.2)

one_first : (x y : Allowed) (xs ys : List Allowed) → Rise (x ∷ xs) → Rise (y ∷ ys) → AreAmong (x ∷ xs) (y ∷ ys) → AreAmong (y ∷ ys) (x ∷ xs) → x.outcome ≡ y.outcome
one_first x y xs ys rise rises into back =
    elim (first_or_later x.outcome y ys (into x.outcome (is_first x xs))) as (λ _. x.outcome ≡ y.outcome) [
      | inl same ↦ sym same
      | inr later ↦ elim (first_or_later y.outcome x xs (back y.outcome (is_first y ys))) as (λ _. x.outcome ≡ y.outcome) [
        | inl same ↦ same
        | inr also ↦ absurd (not_both y.outcome x.outcome (before_later x.outcome y ys rises later) (before_later y.outcome x xs rise also))
      ]
    ]

rest_among : (x y : Allowed) (xs ys : List Allowed) → x.outcome ≡ y.outcome → Rise (x ∷ xs) → AreAmong (x ∷ xs) (y ∷ ys) → AreAmong xs ys
rest_among x y xs ys same rise into o h =
    elim (first_or_later o y ys (into o (is_later o x xs h))) as (λ _. Any (HasOutcome o) ys) [
      | inl first ↦
          let own : IsBefore x.outcome x.outcome = subst (IsBefore x.outcome) (sym (same ∙ first)) (before_later o x xs rise h) in
          absurd (not_both x.outcome x.outcome own own)
      | inr later ↦ later
    ]

-- ---- what is told of outcomes

abbrev told_by : Outcome → List ℕ → Allowed
told_by o ws = record { outcome = o; moments = ws }

module _ (r : Recorded) (n : ℕ) (e : Event) where
  one_told : (x y : Allowed) → x.outcome ≡ y.outcome → IsTold r n e x → IsTold r n e y → x ≡ y
  one_told x y same h k =
      let W : Outcome → List ℕ → Type 0 = λ o ws. AreWitness r.head r.events n (with_outcome o e) ws in
      let first = h.freshest y.moments (subst (λ o. W o y.moments) (sym same) k.witness) in
      let second = k.freshest x.moments (subst (λ o. W o x.moments) same h.witness) in
      let moments = fresh_antisym x.moments y.moments first second in
      ap (λ o. told_by o x.moments) same ∙ ap (told_by y.outcome) moments

  one_list : (xs ys : List Allowed) → All (IsTold r n e) xs → All (IsTold r n e) ys → Rise xs → Rise ys → AreAmong xs ys → AreAmong ys xs → xs ≡ ys
  one_list [] [] told tells rise rises into back = refl
  one_list [] (y ∷ ys) told tells rise rises into back = absurd (none_later y ys back)
  one_list (x ∷ xs) [] told tells rise rises into back = absurd (none_later x xs into)
  one_list (x ∷ xs) (y ∷ ys) told tells rise rises into back =
      let same = one_first x y xs ys rise rises into back in
      let first : x ≡ y = one_told x y same (told 0 x (omega arith)) (tells 0 y (omega arith)) in
      let rest = one_list xs ys (λ k d lt. told (suc k) d (omega (arith, lt))) (λ k d lt. tells (suc k) d (omega (arith, lt)))
      (rest_rises x xs rise) (rest_rises y ys rises) (rest_among x y xs ys same rise into) (rest_among y x ys xs (sym same) rises back) in
      ap (λ z. z ∷ xs) first ∙ ap (λ zs. y ∷ zs) rest

  -- an outcome that is told is allowed
  told_allowed : (xs : List Allowed) (o : Outcome) → All (IsTold r n e) xs → Any (HasOutcome o) xs → IsAllowed r.head r.events n e o
  told_allowed xs o told h =
      let z = subst (IsTold r n e) h.3 (told h.0 h.1 h.2) in
      subst (IsAllowed r.head r.events n e) h.4 (h.1.moments, z.witness)

pub outcomes_are_one : OutcomesAreOne
outcomes_are_one r n e xs ys h k =
    one_list r n e xs ys h.each k.each h.rising k.rising
    (λ o there. k.all o (told_allowed r n e xs o h.each there)) (λ o there. h.all o (told_allowed r n e ys o k.each there))

-- ---- what is kept of a run

pub outcomes_among_kept : WitnessedAmongKept → OutcomesAmongKept
outcomes_among_kept law head kept events n e xs are le h = record {
  each = λ k d lt. told (h.each k d lt);
  all = λ o allowed. h.all o (allowed.0, law.kept head kept events n (with_outcome o e) allowed.0 are le allowed.1);
  rising = h.rising;
}
  where
    told : {x : Allowed} → IsTold (record { head = head; events = kept }) n e x → IsTold (record { head = head; events = events }) n e x
    told {x} t = record {
      witness = law.all head kept events n (with_outcome x.outcome e) x.moments are le t.witness;
      freshest = λ us w. t.freshest us (law.kept head kept events n (with_outcome x.outcome e) us are le w);
    }
