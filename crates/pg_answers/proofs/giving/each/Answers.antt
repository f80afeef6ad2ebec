use Rattle.std.proofs.Common.{[], ◌∷◌, ◌++◌, List, ap, sym, ◌∙◌, subst, map, take}
use Rattle.std.specs.List.{AllByRecursion}
use Rattle.std.proofs.lemmas.List.{map_push, take_more}
use Rattle.pg_event.proofs.Chunks.{all_append}
use Rattle.pg_explain.proofs.Loops.{all_taken}
use Rattle.pg_outcomes.specs.declared.allowed.Allowed.{Allowed}
use Rattle.pg_answers.specs.Giving.{IsGivenBy, allowed_of}
use Rattle.pg_answers.proofs.giving.each.Goals as goal

pub loop-allowed-preserved : goal.loop-allowed-preserved
loop-allowed-preserved c =
    let is_given = IsGivenBy c.args.seen.now c.args.p c.args.kind c.args.la in
    let found : List Allowed = c.args.found.now in
    let told = c.loop-allowed.told.items in
    let walk = c.in_ok-walk.walk in
    let pushed = c.in_ok-push.ensures.items in
    record {
      outcomes = ap (map allowed_of) pushed ∙ map_push allowed_of told walk
          ∙ ap (λ (xs : List Allowed). xs ++ walk.allowed ∷ []) c.loop-allowed.invariant.outcomes
          ∙ ap (λ (x : Allowed). take c.loop-allowed.allowed-index found ++ x ∷ []) c.in_ok-walk.ensures.outcome
          ∙ ap (λ (x : Allowed). take c.loop-allowed.allowed-index found ++ x ∷ []) c.allowed-item.is
          ∙ sym (take_more found c.loop-allowed.allowed-index _ c.loop-allowed-test.true);
      given = subst (AllByRecursion is_given) (sym pushed) (all_append is_given told (walk ∷ []) c.loop-allowed.invariant.given (c.in_ok-walk.ensures.given, tt));
    }

pub returns-clause-outcomes : goal.returns-clause-outcomes
returns-clause-outcomes c = c.loop-allowed.invariant.outcomes ∙ all_taken c.args.found.now c.loop-allowed.allowed-index c.loop-allowed-test.false

pub returns-clause-given : goal.returns-clause-given
returns-clause-given c = c.loop-allowed.invariant.given
