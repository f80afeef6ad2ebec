use Rattle.std.proofs.Common.{◌≡◌, ◌∙◌, subst}
use Rattle.pg_explain.specs.Bads.{bads}
use Rattle.pg_answers.specs.Answers.{IsSummary}
use Rattle.pg_answers.proofs.summaries.summed.Goals as goal

pub returns : goal.returns
returns c =
    let r = c.args.history.now in
    let items : c.deref.result.now ≡ bads r.head r.events = c.deref.ensures.value ∙ c.in_ok-found.ensures in
    (c.report_of.ensures, subst (λ xs. IsSummary xs c.in_ok-summary.summary) items c.in_ok-summary.ensures)
