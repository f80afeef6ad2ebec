use Rattle.std.proofs.Common.{◌∙◌, ap, codes}
use Rattle.serde_json.specs.Data.{Data, Members, put}
use Rattle.serde_json.specs.View.{members_view}
use Rattle.pg_show_json.specs.Tree.{data_of, text, field}
use Rattle.pg_show_trace.specs.Marks.{said}
use Rattle.pg_show_trace.specs.Objects.{rejected_json}
use Rattle.pg_show_trace.proofs.objects.marked_of.Goals as goal

pub returns : goal.returns
returns c = λ told e.
    let why = rejected_json (said c.args.mark.now) in
    let args =
    c.in_ok-put.ensures.ok
    ∙ ap (λ (d : Data). put (codes "rejected") d (members_view c.args.args.entries)) c.in_ok-why.ensures
    ∙ ap (λ (ms : Members). put (codes "rejected") (data_of why) ms) e in
    let fields = c.in_ok-fields.ensures (field (codes "rejected") why told) args in
    c.in_ok-put_text.ensures ∙ ap (λ (ms : Members). put (codes "cname") (data_of (text (codes "terrible"))) ms) fields
