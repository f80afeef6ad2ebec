use Rattle.std.proofs.Common.{◌∙◌, ◌++◌, List, ℕ, ap, string_bytes}
use Rattle.pg_show_json.specs.Tree.{object}
use Rattle.pg_show_trace.proofs.objects.push_object.Goals as goal

pub returns : goal.returns
returns c = λ told e.
    c.in_ok-push_str.ensures.bytes
    ∙ ap (λ (t : List ℕ). string_bytes c.args.text.now ++ t) (c.as_str.ensures.value ∙ c.in_ok-told.ensures (object told) (c.object_of.ensures told e))
