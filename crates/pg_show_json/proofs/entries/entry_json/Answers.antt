use Rattle.std.proofs.Common.{◌≡◌, ◌∙◌, ℕ, List, ap, codes}
use Rattle.serde_json.specs.Data.{Data, Members, object, put}
use Rattle.serde_json.specs.View.{members_view}
use Rattle.serde_json.proofs.Views.{Entry, view-Object}
use Rattle.pg_explain.specs.Names.{level_number}
use Rattle.pg_show_json.specs.Tree.{data_of, members_of, hex, count, Fields, field, no_fields}
use Rattle.pg_show_json.specs.Entries.{number_json}
use Rattle.pg_show_json.proofs.entries.entry_json.Goals as goal

pub returns : goal.returns
returns c =
    let x = c.args.entry.now in
    let writer = number_json x.writer in
    let first : Fields = field (codes "written_by") writer no_fields in
    let written : members_view c.put.new.map.entries ≡ members_of first =
    c.in_ok-put.ensures.ok ∙ ap (λ (d : Data). put (codes "written_by") d (members_view c.new-fields.result.entries)) c.number_json.ensures
    ∙ ap (λ (es : List Entry). put (codes "written_by") (data_of writer) (members_view es)) c.new-fields.ensures.empty in
    let held = c.in_ok-put_held.ensures first written in
    let pcid = c.in_ok-put_hex.ensures ∙ ap (λ (ms : Members). put (codes "pcid") (data_of (hex x.pcid)) ms) held in
    let moment = c.in_ok-put_count.ensures ∙ ap (λ (ms : Members). put (codes "moment") (data_of (count x.step.moment)) ms) pcid in
    let level = c.in_ok-put_count-2.ensures ∙ ap (λ (n : ℕ). put (codes "level") (data_of (count n)) (members_view c.put_count.new.fields.entries)) c.level_number.ensures
    ∙ ap (λ (ms : Members). put (codes "level") (data_of (count (level_number x.step.level))) ms) moment in
    view-Object c.put_count-2.new.fields ∙ ap object level
