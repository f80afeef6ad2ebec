use Rattle.std.proofs.Common.{◌≡◌, ◌∙◌, ℕ, true, false, sym, subst, arith, inl, inr, Result, Ok, Err, Option, IfOk, IfSome, IfNone}
use Rattle.std.proofs.lemmas.Bool.{cases_eq, cases_lt}
use Rattle.pg_span_run.specs.Orders.{Spanned}
use Rattle.pg_span_refute.specs.Impossible.{NoMemoryGives, IsFirstNotGiven}
use Rattle.pg_span_verdict.specs.declared.verdict.Verdict.{Verdict}
use Rattle.pg_span_verdict.specs.Verdicts.{TellsNotGiven}
use Rattle.pg_span_verdict.proofs.Meaning.{never_comes_none_runs, none_are_deduced, none_of_earlier}
use Rattle.pg_span_verdict.proofs.verdict.find_ordered_run.Goals as goal

-- there is one least event
only_first : (s : Spanned) (a b : ℕ) → IsFirstNotGiven s a → IsFirstNotGiven s b → a ≡ b
only_first s a b one other = elim (cases_eq a b) [
  | inl e ↦ e
  | inr differs ↦ elim (cases_lt a b) [
    | inl lt ↦ absurd (other.least a lt one.gives)
    | inr high ↦ absurd (one.least b (omega (arith, high, differs)) other.gives)
  ]
]

-- where no event is one, nothing is to be told
none_to_tell : {E : Type 0} (s : Spanned) (r : Result Verdict E) → ((i : ℕ) → NoMemoryGives s i → ⊥) → IfOk r (TellsNotGiven s)
none_to_tell s (Ok verdict) none = λ several i first. absurd (none i first.gives)
none_to_tell s (Err e) none = tt

pub returns-in-Some-clause-verdict : goal.returns-in-Some-clause-verdict
returns-in-Some-clause-verdict c =
    let s : Spanned = c.args.run.now in
    let n : ℕ = c.in-Some.number in
    let first : IsFirstNotGiven s n = subst (λ (o : Option ℕ). IfSome o (IsFirstNotGiven s)) c.in-Some.is c.first_not_given.ensures.found in
    record {
      within = first.within;
      never = first.never;
      deduced = none_are_deduced s _ c.new.ensures.items;
      earlier = none_of_earlier s _ _ c.new.ensures.items;
      only = λ each. let both : true ≡ false = sym (c.has_one_order.ensures.1 each) ∙ c.if-has_one_order.false in absurd (cc);
      run = never_comes_none_runs s n first.within first.never;
    }

pub returns-in-Some-clause-given : goal.returns-in-Some-clause-given
returns-in-Some-clause-given c = λ several i first.
    let s : Spanned = c.args.run.now in
    only_first s c.in-Some.number i (subst (λ (o : Option ℕ). IfSome o (IsFirstNotGiven s)) c.in-Some.is c.first_not_given.ensures.found) first

pub returns-clause-given : goal.returns-clause-given
returns-clause-given c =
    none_to_tell c.args.run.now c.verdict_of_several.result
    (subst (λ (o : Option ℕ). IfNone o ((i : ℕ) → NoMemoryGives c.args.run.now i → ⊥)) c.in_default.is c.first_not_given.ensures.none)
