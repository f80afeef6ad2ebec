-- What a checker has judged.
use Rattle.std.proofs.Common.{Contains, ◌≡◌, ℕ, ◌==◌, ◌||◌, Bool, true, false, true≢false, List, [], ◌∷◌, ◌++◌, sym, refl, ap, ◌∙◌, subst}
use Rattle.std.proofs.lemmas.List.{map-append}
use Rattle.std.proofs.lemmas.List.Elements.{All-nil, All-push, Contains-append_left, Contains-push}
use Rattle.std.proofs.Math.Decide.{ℕ_discrete}
use Rattle.pg_pool.specs.declared.round.Round.{Round}
use Rattle.pg_pool.specs.declared.numbered_verdict.NumberedVerdict.{NumberedVerdict}
use Rattle.pg_pool.specs.Rounds.{IsIn}
use Rattle.pg_pool.specs.Seats.{Checker, has_taken}
use Rattle.pg_pool.specs.Verdicts.{IsTold, numbers_of}
use Rattle.pg_pool.specs.Work.{IsFresh, HasJudged}
use Rattle.pg_pool.proofs.Times.{other_test}

or_false : (b : Bool) → (b || false) ≡ b
or_false true = refl
or_false false = refl

module _ {V : Type 0} (tells : ℕ → V → Type 0) where
  pub HasJudged-start : (c : Checker) → IsFresh c → HasJudged tells c.round c []
  HasJudged-start c fresh = record {
    round = refl;
    right = All-nil (IsTold tells c.round);
    whole = λ n taken. absurd (true≢false (sym taken ∙ fresh n));
  }

  -- one more was taken and judged
  pub HasJudged-more : (r : Round) (old new : Checker) (n : ℕ) (before room after : List (NumberedVerdict V)) (t : NumberedVerdict V) → HasJudged tells r old before → new.round ≡ old.round → IsIn old.round n
      → ((m : ℕ) → has_taken new m ≡ (has_taken old m || m == n)) → room ≡ before → t.number ≡ n → tells n t.verdict → after ≡ room ++ t ∷ [] → HasJudged tells r new after
  HasJudged-more r old new n before room after t h same within marked kept number so pushed =
      let grown : after ≡ before ++ t ∷ [] = pushed ∙ ap (λ (l : List (NumberedVerdict V)). l ++ t ∷ []) kept in
      let split : numbers_of (before ++ t ∷ []) ≡ numbers_of before ++ t.number ∷ [] = map-append (λ (t : NumberedVerdict V). t.number) before (t ∷ []) in
      let here : IsTold tells r t = (subst (λ (q : Round). IsIn q t.number) h.round (subst (λ (k : ℕ). IsIn old.round k) (sym number) within), subst (λ (k : ℕ). tells k t.verdict) (sym number) so) in
      subst (λ (l : List (NumberedVerdict V)). HasJudged tells r new l) (sym grown) (record {
        round = same ∙ h.round;
        right = All-push (IsTold tells r) before t h.right here;
        whole = λ m taken. subst (λ (l : List ℕ). Contains l m) (sym split) (elim (ℕ_discrete m n) [
          | yes e ↦ subst (λ (k : ℕ). Contains (numbers_of before ++ t.number ∷ []) k) (number ∙ sym e) (Contains-push (numbers_of before) t.number)
          | no apart ↦
              let earlier : has_taken old m ≡ true = sym (or_false (has_taken old m)) ∙ ap (λ (b : Bool). has_taken old m || b) (sym (other_test m n apart)) ∙ sym (marked m) ∙ taken in
              Contains-append_left (numbers_of before) (t.number ∷ []) m (h.whole m earlier)
        ]);
      })
