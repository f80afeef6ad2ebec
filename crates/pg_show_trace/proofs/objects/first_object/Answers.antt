use Rattle.std.proofs.Common.{◌∙◌, ◌++◌, List, ℕ, ap, codes}
use Rattle.pg_show_json.specs.Tree.{json_text}
use Rattle.pg_show_trace.specs.Objects.{named_fields, process_json}
use Rattle.pg_show_trace.proofs.objects.first_object.Goals as goal

pub returns : goal.returns
returns c =
    c.in_ok-push_object.ensures (named_fields (codes "process_name") 0 (codes "record")) c.in_ok-fields.ensures
    ∙ ap (λ (t : List ℕ). t ++ json_text process_json) c.in_ok-text.ensures.ok
