use Rattle.std.proofs.Common.{◌≡◌, ◌∙◌, refl, subst, take}
use Rattle.pg_explain.specs.Bads.{bads}
use Rattle.pg_answers.specs.Answers.{AreExplanations, IsSummary}
use Rattle.pg_answers.proofs.summaries.all_explained.Goals as goal

pub returns : goal.returns
returns c =
    let r = c.args.history in
    let first : c.deref.result.now ≡ bads r.head r.events = c.deref.ensures.value ∙ c.in_ok-found.ensures in
    let again : c.deref-2.result.now ≡ bads r.head r.events = c.deref-2.ensures.value ∙ c.in_ok-found.ensures in
    let causes = subst (λ xs. AreExplanations r.head r.events (take c.args.most xs) c.in_ok-causes.causes.items) first c.in_ok-causes.ensures in
    (c.report_of-report.ensures, refl, causes, subst (λ xs. IsSummary xs c.in_ok-summary.summary) again c.in_ok-summary.ensures)
