use Rattle.std.proofs.Common.{◌∙◌, List, ap}
use Rattle.pg_event.specs.declared.event.Event.{Event}
use Rattle.pg_show_json.specs.Tree.{Fields, data_of}
use Rattle.pg_show_json.specs.Causes.{explanation_json}
use Rattle.pg_show_json_answers.specs.Answers.{cause_fields, with_allowed}
use Rattle.pg_show_json_answers.proofs.json.answer_json.Goals as goal

pub returns-in_ok-put_allowed-in-Cause : goal.returns-in_ok-put_allowed-in-Cause
returns-in_ok-put_allowed-in-Cause c =
    let events : List Event = c.in-Cause.history.events in
    let x = c.in-Cause.explanation in
    let cause = explanation_json events x in
    let told = c.in_ok-cause-in-Cause.ensures ∙ ap (λ (es : List Event). data_of (explanation_json es x)) c.events.ensures.events in
    let fields : Fields = cause_fields cause in
    let allowed = c.in_ok-put_allowed-in-Cause.ensures fields (c.in_ok-fields-in-Cause.ensures cause told) in
    rw c.in-Cause.is (c.report_line-in-Cause.ensures (with_allowed c.in-Cause.allowed fields) allowed)
