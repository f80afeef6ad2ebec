use Rattle.std.proofs.Common.{Result, Ok, Err, subst, ◌∙◌}
use Rattle.std.specs.Prelude.{IfOk}
use Rattle.std.specs.List.{AllByRecursion}
use Rattle.pg_entry.specs.declared.AccessKind.{AccessKind}
use Rattle.pg_answers.specs.Giving.{IsGivenBy}
use Rattle.pg_answers.proofs.giving.told_outcomes.Goals as goal

both : {T E : Type 0} {P Q R : T → Type 0} (x : Result T E) → ((t : T) → P t → Q t → R t) → IfOk x P → IfOk x Q → IfOk x R
both (Ok t) f p q = f t p q
both (Err e) f p q = tt

pub returns : goal.returns
returns c =
    let r = c.args.seen.now in
    let at = c.in-Access in
    rw at.is (both c.each.result (λ told outcomes given. record {
      outcomes = outcomes ∙ c.first_allowed-first.ensures;
      given = subst (λ (kind : AccessKind). AllByRecursion (IsGivenBy r at.p kind at.la) told.items) c.access_kind.ensures given;
    }) c.each.ensures.outcomes c.each.ensures.given)
