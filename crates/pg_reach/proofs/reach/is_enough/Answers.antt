use Rattle.std.proofs.Common.{◌≡◌, ◌∙◌, List, ℕ, false, true, ap, sym, subst}
use Rattle.std.specs.Prelude.{IfSome}
use Rattle.pg_search.specs.Freshness.{is_as_fresh}
use Rattle.pg_search.proofs.Freshness.{fresh_total}
use Rattle.pg_reach.proofs.reach.is_enough.Goals as goal

pub returns-else-not-freshest-clause-fresher : goal.returns-else-not-freshest-clause-fresher
returns-else-not-freshest-clause-fresher c = λ none freshest.
    let x : List ℕ = c.in-Some.moments in
    let y : List ℕ = c.args.others.now in
    let behind : is_as_fresh x y ≡ false = ap (λ ws. is_as_fresh ws y) (sym c.as_slice.ensures.moments) ∙ ap (is_as_fresh c.as_slice.result.now) (sym c.as_slice-else-not-freshest.ensures.moments) ∙ sym c.are_as_fresh.ensures ∙ none in
    subst (λ o. IfSome o (λ ms. is_as_fresh y ms ≡ true)) (sym c.in-Some.is) (fresh_total x y behind)
