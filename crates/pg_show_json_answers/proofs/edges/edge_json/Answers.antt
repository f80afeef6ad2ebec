use Rattle.std.proofs.Common.{◌≡◌, ◌∙◌, List, ap, codes}
use Rattle.serde_json.specs.Data.{Members, object, put}
use Rattle.serde_json.specs.View.{members_view}
use Rattle.serde_json.proofs.Views.{Entry, view-Object}
use Rattle.pg_show_json.specs.Tree.{data_of, members_of, count, field, no_fields}
use Rattle.pg_show_json_answers.proofs.edges.edge_json.Goals as goal

pub returns : goal.returns
returns c =
    let edge = c.args.edge in
    let none : members_view c.new-fields.result.entries ≡ members_of no_fields = ap (λ (es : List Entry). members_view es) c.new-fields.ensures.empty in
    let second : members_view c.put_count.new.fields.entries ≡ members_of (field (codes "second") (count edge.second) no_fields) =
    c.in_ok-put_count.ensures ∙ ap (λ (ms : Members). put (codes "second") (data_of (count edge.second)) ms) none in
    let first = c.in_ok-put_count-2.ensures ∙ ap (λ (ms : Members). put (codes "first") (data_of (count edge.first)) ms) second in
    view-Object c.put_count-2.new.fields ∙ ap object first
