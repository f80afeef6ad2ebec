use Rattle.std.proofs.Common.{◌≡◌, ◌∙◌, ap, false}
use Rattle.serde_json.specs.View.{view}
use Rattle.serde_json.specs.Written.{has_float, compact_text}
use Rattle.pg_show_json.proofs.Plain.{plain}
use Rattle.pg_show_trace.proofs.objects.value_text.Goals as goal

pub returns : goal.returns
returns c = λ told e.
    let whole : has_float (view c.args.value.now) ≡ false = ap has_float e ∙ plain told in
    c.in_ok-text.ensures.text whole ∙ ap compact_text e
