use Rattle.std.proofs.Common.{◌++◌, codes, decimal, string_bytes, append_assoc, ap, ◌∙◌}
use Rattle.std.proofs.lemmas.Result.{IfOk-weaker}
use Rattle.pg_explain.specs.Lasts.{by_text, under_text}
use Rattle.pg_explain.proofs.last_lines.push_last_moments.Goals as goal

pub returns : goal.returns
returns c =
    let front = codes "last: moment " ++ decimal c.args.last.now.number in
    let old = string_bytes c.args.text.now in
    let by = by_text c.args.last.now.moments in
    let under = under_text c.args.last.now.other in
    IfOk-weaker c.push_under.result _ _ (λ u h. h ∙ ap (λ t. t ++ under) c.in_ok-push_by.ensures ∙ ap (λ t. (t ++ by) ++ under) c.in_ok-write.ensures.bytes
    ∙ append_assoc (old ++ front) by under
    ∙ append_assoc old front (by ++ under)) c.push_under.ensures
