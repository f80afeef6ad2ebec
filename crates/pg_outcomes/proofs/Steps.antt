-- Outcomes that are found, one candidate after another.
use Rattle.std.proofs.Common.{◌≡◌, ℕ, zero, suc, ◌+◌, ◌<◌, ◌≤◌, List, [], ◌∷◌, ◌++◌, length, take, take_all, get_or, Some, None, refl, sym, ◌∙◌, subst, inl, inr, arith, length-append}
use Rattle.std.specs.Prelude.{Result, Ok, Err, IfOk, IfSome}
use Rattle.std.specs.List.{Any, AllPairs, Contains}
use Rattle.std.proofs.lemmas.List.{take_more, get_or-take, get_or_append_left, length-take}
use Rattle.std.proofs.lemmas.List.Elements.{All-nil, All-push, Contains-append_left, Contains-append_cases, Contains-push}
use Rattle.std.proofs.lemmas.List.Quantifiers.{Any-push, all_pairs_push}
use Rattle.std.proofs.Math.Seq.{get_or-append_seam}
use Rattle.pg_event.specs.declared.event.Event.{Event}
use Rattle.pg_event.specs.declared.event.Outcome.{Outcome}
use Rattle.pg_event.specs.Spelling.{Recorded}
use Rattle.pg_search.specs.Law.{AreWitness, AreFreshestOf}
use Rattle.pg_reach.specs.Placed.{with_outcome}
use Rattle.pg_reach.specs.ByOutcome.{Findings, AreByOutcome}
use Rattle.pg_outcomes.specs.declared.allowed.Allowed.{Allowed}
use Rattle.pg_outcomes.specs.Allowing.{IsAllowed, IsBefore, IsTold, AreOutcomes}
use Rattle.pg_outcomes.specs.Candidates.{AreCandidates, AreFound, IsToldOf}

any_more : {X : Type 0} (P : X → Type 0) (xs : List X) (y : X) → Any P xs → Any P (xs ++ y ∷ [])
any_more P xs y h = (h.0, h.1, omega (arith, h.2, length-append xs (y ∷ [])), get_or_append_left xs (y ∷ []) h.1 h.0 h.2 ∙ h.3, h.4)

only : (o p : Outcome) → Contains (o ∷ []) p → o ≡ p
only o p h = single h.0 h.1 h.2
  where
    single : (k : ℕ) → k < length (o ∷ []) → get_or (o ∷ []) k p ≡ p → o ≡ p
    single zero lt is = is
    single (suc k) lt is = absurd (omega (arith, lt))

-- each before the last comes before it
before_last : (os : List Outcome) (o y : Outcome) → AllPairs IsBefore (os ++ o ∷ []) → Contains os y → IsBefore y o
before_last os o y pairs h =
    let within : length os < length (os ++ o ∷ []) = omega (arith, length-append os (o ∷ [])) in
    let first : get_or (os ++ o ∷ []) h.0 y ≡ y = get_or_append_left os (o ∷ []) y h.0 h.1 ∙ h.2 in
    let last : get_or (os ++ o ∷ []) (length os) y ≡ o = get_or-append_seam os o [] y in
    subst (IsBefore y) last (subst (λ z. IsBefore z (get_or (os ++ o ∷ []) (length os) y)) first (pairs h.0 (length os) y h.1 within))

front_rises : (os : List Outcome) (j : ℕ) → AllPairs IsBefore os → AllPairs IsBefore (take j os)
front_rises os j pairs i k d lt within =
    let high : k < j = omega (arith, within, length-take j os) in
    let low : i < j = omega (arith, high, lt) in
    let there : k < length os = omega (arith, within, length-take j os) in
    subst (λ y. IsBefore (get_or (take j os) i d) y) (sym (get_or-take j os k d high)) (subst (λ x. IsBefore x (get_or os k d)) (sym (get_or-take j os i d low)) (pairs i k d lt there))

pub found_nothing : (r : Recorded) (n : ℕ) (e : Event) → AreFound r n e [] []
found_nothing r n e = record {
  each = All-nil (IsTold r n e);
  among = All-nil (λ (x : Allowed). Contains [] x.outcome);
  all = λ o there allowed. absurd (omega (arith, there.1));
  rising = λ i j d lt within. absurd (omega (arith, within));
}

-- an outcome that is not allowed
missed : (r : Recorded) (n : ℕ) (e : Event) (os : List Outcome) (xs : List Allowed) (o : Outcome) → AreFound r n e os xs → (IsAllowed r.head r.events n e o → ⊥) → AreFound r n e (os ++ o ∷ []) xs
missed r n e os xs o h none = record {
  each = h.each;
  among = λ k d lt. Contains-append_left os (o ∷ []) _ (h.among k d lt);
  all = λ p there allowed. elim (Contains-append_cases os (o ∷ []) p there) as (λ _. Any (λ (x : Allowed). x.outcome ≡ p) xs) [
    | inl old ↦ h.all p old allowed
    | inr new ↦ absurd (none (subst (IsAllowed r.head r.events n e) (sym (only o p new)) allowed))
  ];
  rising = h.rising;
}

-- one that is
met : (r : Recorded) (n : ℕ) (e : Event) (os : List Outcome) (xs : List Allowed) (o : Outcome) (x : Allowed) → AreFound r n e os xs → AllPairs IsBefore (os ++ o ∷ []) → IsToldOf r n e o x → AreFound r n e (os ++ o ∷ []) (xs ++ x ∷ [])
met r n e os xs o x h pairs told = record {
  each = All-push (IsTold r n e) xs x h.each told.1;
  among = All-push (λ (y : Allowed). Contains (os ++ o ∷ []) y.outcome) xs x (λ k d lt. Contains-append_left os (o ∷ []) _ (h.among k d lt)) (subst (Contains (os ++ o ∷ [])) (sym told.0) (Contains-push os o));
  all = λ p there allowed. elim (Contains-append_cases os (o ∷ []) p there) as (λ _. Any (λ (y : Allowed). y.outcome ≡ p) (xs ++ x ∷ [])) [
    | inl old ↦ any_more (λ (y : Allowed). y.outcome ≡ p) xs x (h.all p old allowed)
    | inr new ↦ Any-push (λ (y : Allowed). y.outcome ≡ p) xs x (told.0 ∙ only o p new)
  ];
  rising = all_pairs_push (λ (y z : Allowed). IsBefore y.outcome z.outcome) xs x h.rising
      (λ k d lt. subst (IsBefore (get_or xs k d).outcome) (sym told.0) (before_last os o (get_or xs k d).outcome pairs (h.among k d lt)));
}

-- the next of some outcomes
module _ (r : Recorded) (n : ℕ) (e : Event) (os : List Outcome) (i : ℕ) (d : Outcome) (lt : i < length os) where
  abbrev next : Outcome
  next = get_or os i d

  pub next_missed : (xs : List Allowed) → (IsAllowed r.head r.events n e next → ⊥) → AreFound r n e (take i os) xs → AreFound r n e (take (i + 1) os) xs
  next_missed xs none h = subst (λ front. AreFound r n e front xs) (sym (take_more os i d lt)) (missed r n e (take i os) xs next h none)

  pub next_met : (xs : List Allowed) (x : Allowed) → AllPairs IsBefore os → IsToldOf r n e next x → AreFound r n e (take i os) xs → AreFound r n e (take (i + 1) os) (xs ++ x ∷ [])
  next_met xs x pairs told h =
      subst (λ front. AreFound r n e front (xs ++ x ∷ [])) (sym (take_more os i d lt)) (met r n e (take i os) xs next x h (subst (AllPairs IsBefore) (take_more os i d lt) (front_rises os (i + 1) pairs)) told)

pub found_all : (r : Recorded) (n : ℕ) (e : Event) (os : List Outcome) (xs : List Allowed) (i : ℕ) → length os ≤ i → AreFound r n e (take i os) xs → AreFound r n e os xs
found_all r n e os xs i end h = subst (λ front. AreFound r n e front xs) (take_all i os end) h

pub are_outcomes : (r : Recorded) (n : ℕ) (e : Event) (os : List Outcome) (xs : List Allowed) → AreCandidates r n e os → AreFound r n e os xs → AreOutcomes r n e xs
are_outcomes r n e os xs c h = record {
  each = h.each;
  all = λ o allowed. h.all o (c.all o allowed) allowed;
  rising = h.rising;
}

-- what a call gives is more
pub ok_more : {A E : Type 0} (P Q : A → Type 0) → ((x : A) → P x → Q x) → (r : Result A E) → IfOk r P → IfOk r Q
ok_more P Q more (Ok x) h = more x h
ok_more P Q more (Err e) h = tt

-- what is found for an outcome

pub told_of : (r : Recorded) (n : ℕ) (e : Event) (found : Findings) (o : Outcome) (ws : List ℕ) → AreByOutcome r n e found → found o ≡ Some ws → IsToldOf r n e o (record { outcome = o; moments = ws })
told_of r n e found o ws h is = (
  refl,
  record {
    witness = subst (λ x. IfSome x (AreWitness r.head r.events n (with_outcome o e))) is (h.some o);
    freshest = subst (λ x. IfSome x (AreFreshestOf r.head r.events n (with_outcome o e))) is (h.freshest o);
  },
)

pub none_of : (r : Recorded) (n : ℕ) (e : Event) (found : Findings) (o : Outcome) → AreByOutcome r n e found → found o ≡ None → IsAllowed r.head r.events n e o → ⊥
none_of r n e found o h is allowed = h.none o is allowed.0 allowed.1
