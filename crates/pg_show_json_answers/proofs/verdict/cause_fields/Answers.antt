use Rattle.std.proofs.Common.{◌≡◌, IfOk, rules, subst, sym}
use Rattle.serde_json.specs.Data as json
use Rattle.serde_json.specs.View.{view, members_view}
use Rattle.serde_json.specs.declared.value.Value.{Null, the_lemmas}
use Rattle.pg_show_json.specs.Tree.{nothing, members_of}
use Rattle.pg_span_verdict.specs.declared.verdict.Verdict.{Verdict}
use Rattle.pg_show_json_answers.specs.Verdicts.{cause_fields}
use Rattle.pg_show_json_answers.proofs.verdict.cause_fields.Goals as goal

pub returns-in-NoneOfAll : goal.returns-in-NoneOfAll
returns-in-NoneOfAll c =
    let is : view Null ≡ json.null = search (rules, the_lemmas) in
    subst (λ (t : Verdict). IfOk c.why_fields.result (λ m. members_view m.entries ≡ members_of (cause_fields c.args.run.now t))) (sym c.in-NoneOfAll.is) (c.why_fields.ensures nothing is)
