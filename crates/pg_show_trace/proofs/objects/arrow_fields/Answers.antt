use Rattle.std.proofs.Common.{◌∙◌, ap, codes}
use Rattle.serde_json.specs.Data.{Members, put}
use Rattle.pg_show_json.specs.Tree.{data_of, count, text, field, no_fields}
use Rattle.pg_show_trace.proofs.objects.arrow_fields.Goals as goal

pub returns : goal.returns
returns c =
    let at = c.in_ok-put_count.ensures ∙ ap (λ (ms : Members). put (codes "ts") (data_of (count c.args.at)) ms) c.none-fields.ensures in
    let place = c.in_ok-put_place.ensures (field (codes "ts") (count c.args.at) no_fields) at in
    let id = c.in_ok-put_count-2.ensures ∙ ap (λ (ms : Members). put (codes "id") (data_of (count c.args.id)) ms) place in
    let cat = c.in_ok-put_text.ensures ∙ ap (λ (ms : Members). put (codes "cat") (data_of (text (codes "rejection"))) ms) id in
    let name = c.in_ok-put_text-2.ensures ∙ ap (λ (ms : Members). put (codes "name") (data_of (text c.args.name.now)) ms) cat in
    c.in_ok-put_text-3.ensures ∙ ap (λ (ms : Members). put (codes "ph") (data_of (text c.args.kind.now)) ms) name
