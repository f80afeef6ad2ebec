use Rattle.std.proofs.Common.{◌∙◌, ap, codes}
use Rattle.serde_json.specs.Data.{Data, Members, put}
use Rattle.serde_json.specs.View.{members_view}
use Rattle.pg_show_json.specs.Tree.{data_of, text, field, no_fields}
use Rattle.pg_show_trace.specs.Objects.{name_json}
use Rattle.pg_show_trace.proofs.objects.named_fields.Goals as goal

pub returns : goal.returns
returns c =
    let j = name_json c.args.name.now in
    let args =
    c.in_ok-put.ensures.ok
    ∙ ap (λ (d : Data). put (codes "args") d (members_view c.none-fields.result.entries)) c.in_ok-args.ensures
    ∙ ap (λ (ms : Members). put (codes "args") (data_of j) ms) c.none-fields.ensures in
    let place = c.in_ok-put_place.ensures (field (codes "args") j no_fields) args in
    let kind = c.in_ok-put_text.ensures ∙ ap (λ (ms : Members). put (codes "name") (data_of (text c.args.kind.now)) ms) place in
    c.in_ok-put_text-2.ensures ∙ ap (λ (ms : Members). put (codes "ph") (data_of (text (codes "M"))) ms) kind
