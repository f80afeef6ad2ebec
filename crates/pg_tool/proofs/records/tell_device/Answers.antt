use Rattle.std.proofs.Common.{sym, subst, ◌∙◌}
use Rattle.std.specs.Prelude.{Option}
use Rattle.pg_report.specs.Changes.{filled}
use Rattle.pg_answers.specs.Refusals.{Tells}
use Rattle.pg_answers.specs.declared.question.Question.{Question}
use Rattle.pg_tool.specs.Records.{device_line}
use Rattle.pg_tool.proofs.records.tell_device.Goals as goal

pub returns-in-None : goal.returns-in-None
returns-in-None g c =
    let errors = filled g.E.Sink c.args.errors.now c.tell.new.errors in
    subst (λ (q : Option Question). Tells errors (device_line q)) (sym c.in-None.is ∙ c.question_of.ensures) c.tell.ensures

pub returns-in-Some : goal.returns-in-Some
returns-in-Some g c =
    let errors = filled g.E.Sink c.args.errors.now c.tell_json.new.errors in
    subst (λ (q : Option Question). Tells errors (device_line q)) (sym c.in-Some.is ∙ c.question_of.ensures) c.tell_json.ensures
