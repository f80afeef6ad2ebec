use Rattle.std.proofs.Common.{◌≡◌, ◌∙◌, ℕ, List, ap, codes}
use Rattle.serde_json.specs.Data.{Data, Members, object, put}
use Rattle.serde_json.specs.View.{members_view}
use Rattle.serde_json.proofs.Views.{Entry, view-Object}
use Rattle.pg_explain.specs.Names.{level_number}
use Rattle.pg_show_json.specs.Tree.{data_of, members_of, count, Fields, field, no_fields}
use Rattle.pg_show_json.specs.Entries.{number_json}
use Rattle.pg_show_json_answers.specs.Causes.{with_page}
use Rattle.pg_show_json_answers.proofs.cause.entry_json.Goals as goal

pub returns : goal.returns
returns c =
    let x = c.args.seen in
    let writer = number_json x.writer in
    let first : Fields = field (codes "written_by") writer no_fields in
    let written : members_view c.put.new.map.entries ≡ members_of first =
    c.in_ok-put.ensures.ok ∙ ap (λ (d : Data). put (codes "written_by") d (members_view c.new-fields.result.entries)) c.number_json.ensures
    ∙ ap (λ (es : List Entry). put (codes "written_by") (data_of writer) (members_view es)) c.new-fields.ensures.empty in
    let page = c.in_ok-put_page.ensures first written in
    let held = c.in_ok-put_held.ensures (with_page c.args.kind first) page in
    let level = c.in_ok-put_count.ensures ∙ ap (λ (n : ℕ). put (codes "level") (data_of (count n)) (members_view c.put_held.new.fields.entries)) c.level_number.ensures
    ∙ ap (λ (ms : Members). put (codes "level") (data_of (count (level_number x.level))) ms) held in
    view-Object c.put_count.new.fields ∙ ap object level
