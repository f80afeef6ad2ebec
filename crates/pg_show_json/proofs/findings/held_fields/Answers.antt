use Rattle.std.proofs.Common.{◌≡◌, ◌∙◌, List, ap, codes}
use Rattle.serde_json.specs.Data.{Members, put}
use Rattle.serde_json.specs.View.{members_view}
use Rattle.serde_json.proofs.Views.{Entry}
use Rattle.pg_show_json.specs.Tree.{data_of, members_of, text, count, Fields, field, no_fields}
use Rattle.pg_show_json.proofs.findings.held_fields.Goals as goal

pub returns : goal.returns
returns c =
    let number = data_of (count c.args.moment) in
    let first : Fields = field (codes "moment") (count c.args.moment) no_fields in
    let moment : members_view c.put_count.new.fields.entries ≡ members_of first =
    c.in_ok-put_count.ensures ∙ ap (λ (es : List Entry). put (codes "moment") number (members_view es)) c.new-fields.ensures.empty in
    let held = c.in_ok-put_held.ensures first moment in
    c.in_ok-put_text.ensures ∙ ap (λ (ms : Members). put (codes "finding") (data_of (text (codes "held"))) ms) held
