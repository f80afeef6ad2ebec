use Rattle.std.proofs.Common.{◌≡◌, true, ap, ◌∙◌, subst}
use Rattle.pg_search.specs.Freshness.{is_as_fresh}
use Rattle.pg_search.proofs.Freshness.{fresh_refl}
use Rattle.pg_reach.specs.Views.{Viewed}
use Rattle.pg_reach.specs.Reaching.{up_to}
use Rattle.pg_reach.proofs.Fresh.{newer_fresher}
use Rattle.pg_reach.proofs.view.View.end_by.Goals as goal

pub returns-in-None-clause-fresher : goal.returns-in-None-clause-fresher
returns-in-None-clause-fresher c =
    let freshest : c.self.inside.walker.freshest ≡ c.args.self.now.walker.freshest = ap (λ (v : Viewed). v.walker.freshest) c.self.view_is in
    newer_fresher c.args.self.now.walker.freshest c.args.found c.up_to-moments.result (λ f. c.is_enough.ensures.fresher c.if-is_enough.false (freshest ∙ f))

pub returns-in-None-clause-none : goal.returns-in-None-clause-none
returns-in-None-clause-none c = λ m read wanted gives good f.
    let is : c.in-Some.read ≡ m = cc (c.in-Some.is, read) in
    let moments : c.up_to-moments.result ≡ up_to m c.args.x.now.latest = c.up_to-moments.ensures ∙ ap (λ k. up_to k c.args.x.now.latest) is in
    subst (λ ms. is_as_fresh c.up_to-moments.result ms ≡ true) moments (fresh_refl c.up_to-moments.result)
