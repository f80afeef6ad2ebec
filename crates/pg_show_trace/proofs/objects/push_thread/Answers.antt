use Rattle.std.proofs.Common.{◌∙◌, ◌++◌, List, ℕ, ap, codes, decimal}
use Rattle.pg_show_json.specs.Tree.{members_of}
use Rattle.pg_show_trace.specs.Objects.{named_fields}
use Rattle.pg_show_trace.proofs.objects.push_thread.Goals as goal

pub returns : goal.returns
returns c =
    let fields = c.in_ok-fields.ensures ∙ ap (λ (n : List ℕ). members_of (named_fields (codes "thread_name") c.args.p n)) (c.as_str.ensures.value ∙ c.in_ok-name.ensures.ok) in
    c.push_next.ensures (named_fields (codes "thread_name") c.args.p (codes "cpu " ++ decimal c.args.p)) fields
