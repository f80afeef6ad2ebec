use Rattle.std.proofs.Common.{◌∙◌, ◌++◌, List, ℕ, ap, codes, append_assoc, string_bytes}
use Rattle.pg_show_json.specs.Tree.{Fields, members_of, object}
use Rattle.pg_show_trace.specs.Marks.{role_name, said}
use Rattle.pg_show_trace.specs.Objects.{arrow_fields, end_fields, next_text}
use Rattle.pg_show_trace.proofs.objects.push_arrow.Goals as goal

pub returns : goal.returns
returns c =
    let m = said c.args.mark.now in
    let x = c.args.source in
    let one : Fields = arrow_fields (codes "s") c.args.id (role_name x.role) x.p x.number in
    let two : Fields = end_fields c.args.id (role_name x.role) m in
    let start = c.in_ok-start.ensures ∙ ap (λ (t : List ℕ). members_of (arrow_fields (codes "s") c.args.id t x.p x.number)) c.name-name.ensures in
    let end = c.in_ok-end.ensures ∙ ap (λ (t : List ℕ). members_of (end_fields c.args.id t m)) c.name-name.ensures in
    c.in_ok-push_next-2.ensures two end
    ∙ ap (λ (t : List ℕ). t ++ next_text (object two)) (c.in_ok-push_next.ensures one start)
    ∙ append_assoc (string_bytes c.args.text.now) (next_text (object one)) (next_text (object two))
