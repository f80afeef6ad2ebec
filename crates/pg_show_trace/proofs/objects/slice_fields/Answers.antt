use Rattle.std.proofs.Common.{◌∙◌, ℕ, List, ap, codes}
use Rattle.serde_json.specs.Data.{Members, put}
use Rattle.serde_json.specs.View.{members_view}
use Rattle.pg_explain.specs.Denied.{claim_line}
use Rattle.pg_show_json.specs.Tree.{Fields, data_of, members_of, count, text, field}
use Rattle.pg_show_trace.specs.Objects.{with_place}
use Rattle.pg_show_trace.proofs.objects.slice_fields.Goals as goal

pub returns : goal.returns
returns c = λ told e.
    let slot = c.args.slot in
    let line : List ℕ = claim_line c.args.number c.args.event.now in
    let times : Fields = field (codes "ts") (count slot.from) (field (codes "dur") (count slot.length) told) in
    let dur = c.in_ok-put_count.ensures ∙ ap (λ (ms : Members). put (codes "dur") (data_of (count slot.length)) ms) e in
    let at = c.in_ok-put_count-2.ensures ∙ ap (λ (ms : Members). put (codes "ts") (data_of (count slot.from)) ms) dur in
    let place = c.in_ok-put_place.ensures times at ∙ ap (λ (p : ℕ). members_of (with_place p times)) c.processor_of.ensures in
    let name =
    c.in_ok-put_text.ensures
    ∙ ap (λ (t : List ℕ). put (codes "name") (data_of (text t)) (members_view c.put_place.new.fields.entries)) (c.as_str.ensures.value ∙ c.in_ok-line.ensures)
    ∙ ap (λ (ms : Members). put (codes "name") (data_of (text line)) ms) place in
    c.in_ok-put_text-2.ensures ∙ ap (λ (ms : Members). put (codes "ph") (data_of (text (codes "X"))) ms) name
