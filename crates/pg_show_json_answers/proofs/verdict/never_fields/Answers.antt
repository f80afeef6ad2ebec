use Rattle.std.proofs.Common.{◌∙◌, ap, codes}
use Rattle.serde_json.specs.Data.{Data, Members, put}
use Rattle.serde_json.specs.View.{members_view}
use Rattle.pg_show_json.specs.Tree.{data_of}
use Rattle.pg_show_json_answers.specs.Causes.{cause_json}
use Rattle.pg_show_json_answers.specs.Verdicts.{edges_json}
use Rattle.pg_show_json_answers.proofs.verdict.never_fields.Goals as goal

pub returns : goal.returns
returns c =
    let fields = c.in_ok-fields.ensures (cause_json c.args.run.now c.args.event) c.in_ok-cause.ensures in
    c.in_ok-put.ensures.ok ∙ ap (λ (d : Data). put (codes "deduced") d (members_view c.in_ok-fields.fields.entries)) c.in_ok-edges.ensures
    ∙ ap (λ (ms : Members). put (codes "deduced") (data_of (edges_json c.args.edges.now)) ms) fields
