use Rattle.std.proofs.Common.{◌∙◌, ap, codes}
use Rattle.serde_json.specs.Data.{Data, Members, put}
use Rattle.serde_json.specs.View.{members_view}
use Rattle.pg_show_json.specs.Tree.{Fields, data_of, field}
use Rattle.pg_show_json.specs.Entries.{number_json}
use Rattle.pg_show_json_answers.specs.Answers.{event_outcomes_fields}
use Rattle.pg_show_json_answers.proofs.spanned_outcomes.outcomes_line.Goals as goal

pub returns : goal.returns
returns c =
    let x = c.args.told.now in
    let told : Fields = field (codes "place") (number_json x.place) (event_outcomes_fields x.outcomes) in
    let fields =
    c.in_ok-put.ensures.ok
    ∙ ap (λ (d : Data). put (codes "place") d (members_view c.in_ok-fields.fields.entries)) c.number_json.ensures
    ∙ ap (λ (ms : Members). put (codes "place") (data_of (number_json x.place)) ms) c.in_ok-fields.ensures in
    c.line_of.ensures told fields
