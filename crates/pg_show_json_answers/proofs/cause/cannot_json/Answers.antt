use Rattle.std.proofs.Common.{◌≡◌, ◌∙◌, List, ap, codes}
use Rattle.serde_json.specs.Data.{Data, Members, object, put}
use Rattle.serde_json.specs.View.{members_view}
use Rattle.serde_json.proofs.Views.{Entry, view-Object}
use Rattle.pg_show_json.specs.Tree.{data_of, members_of, hex, Fields, field, no_fields}
use Rattle.pg_show_json.specs.Entries.{number_json}
use Rattle.pg_show_json_answers.proofs.cause.cannot_json.Goals as goal

pub returns : goal.returns
returns c =
    let x = c.args.seen in
    let writer = number_json x.writer in
    let first : Fields = field (codes "written_by") writer no_fields in
    let written : members_view c.put.new.map.entries ≡ members_of first =
    c.in_ok-put.ensures.ok ∙ ap (λ (d : Data). put (codes "written_by") d (members_view c.new-fields.result.entries)) c.number_json.ensures
    ∙ ap (λ (es : List Entry). put (codes "written_by") (data_of writer) (members_view es)) c.new-fields.ensures.empty in
    let gone = c.in_ok-put_gone.ensures first written in
    let value = c.in_ok-put_hex.ensures ∙ ap (λ (ms : Members). put (codes "value") (data_of (hex x.value)) ms) gone in
    let word = c.in_ok-put_hex-2.ensures ∙ ap (λ (ms : Members). put (codes "word") (data_of (hex x.address)) ms) value in
    view-Object c.put_hex-2.new.fields ∙ ap object word
