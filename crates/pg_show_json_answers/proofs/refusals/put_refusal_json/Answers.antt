use Rattle.std.proofs.Common.{◌∙◌, ℕ, ap, sym}
use Rattle.pg_codec.proofs.Written.{puts_same}
use Rattle.pg_event.specs.declared.refusal.Refusal.{Refusal}
use Rattle.pg_show_json.specs.Tree.{json_line}
use Rattle.pg_show_json_answers.specs.Refusals.{error_json, malformed_json}
use Rattle.pg_show_json_answers.proofs.OnLiterals.{objects_on_literals}
use Rattle.pg_report.specs.declared.error.AuditError.TheVariants.{Refused}
use Rattle.pg_show_json_answers.proofs.refusals.put_refusal_json.Goals as goal

pub returns-in-Malformed : goal.returns-in-Malformed
returns-in-Malformed g c =
    let event = c.in-Malformed.event in
    puts_same g.W.Sink _ _ _ _ _
    (ap (λ (rule : ℕ). json_line (malformed_json event rule)) c.rule_number.ensures ∙ ap (λ (r : Refusal). json_line (error_json (Refused r))) (sym c.in-Malformed.is))
    c.put_malformed.ensures

pub returns-in-Magic : goal.returns-in-Magic
unfolding objects_on_literals
returns-in-Magic g c = puts_same g.W.Sink _ _ _ _ _ (ap (λ (r : Refusal). json_line (error_json (Refused r))) (sym c.in-Magic.is)) c.put_all.ensures

pub returns-in-Version : goal.returns-in-Version
unfolding objects_on_literals
returns-in-Version g c = puts_same g.W.Sink _ _ _ _ _ (ap (λ (r : Refusal). json_line (error_json (Refused r))) (sym c.in-Version.is)) c.put_all-in-Version.ensures

pub returns-in-HeaderField : goal.returns-in-HeaderField
unfolding objects_on_literals
returns-in-HeaderField g c = puts_same g.W.Sink _ _ _ _ _ (ap (λ (r : Refusal). json_line (error_json (Refused r))) (sym c.in-HeaderField.is)) c.put_all-in-HeaderField.ensures

pub returns-in-SegmentNumber : goal.returns-in-SegmentNumber
unfolding objects_on_literals
returns-in-SegmentNumber g c = puts_same g.W.Sink _ _ _ _ _ (ap (λ (r : Refusal). json_line (error_json (Refused r))) (sym c.in-SegmentNumber.is)) c.put_all-in-SegmentNumber.ensures

pub returns-in-SegmentCount : goal.returns-in-SegmentCount
unfolding objects_on_literals
returns-in-SegmentCount g c = puts_same g.W.Sink _ _ _ _ _ (ap (λ (r : Refusal). json_line (error_json (Refused r))) (sym c.in-SegmentCount.is)) c.put_all-in-SegmentCount.ensures

pub returns-in-Tag : goal.returns-in-Tag
unfolding objects_on_literals
returns-in-Tag g c = puts_same g.W.Sink _ _ _ _ _ (ap (λ (r : Refusal). json_line (error_json (Refused r))) (sym c.in-Tag.is)) c.put_all-in-Tag.ensures

pub returns-in-Truncated : goal.returns-in-Truncated
unfolding objects_on_literals
returns-in-Truncated g c = puts_same g.W.Sink _ _ _ _ _ (ap (λ (r : Refusal). json_line (error_json (Refused r))) (sym c.in-Truncated.is)) c.put_all-in-Truncated.ensures

pub returns-in-Total : goal.returns-in-Total
unfolding objects_on_literals
returns-in-Total g c = puts_same g.W.Sink _ _ _ _ _ (ap (λ (r : Refusal). json_line (error_json (Refused r))) (sym c.in-Total.is)) c.put_all-in-Total.ensures

pub returns-in-Trailing : goal.returns-in-Trailing
unfolding objects_on_literals
returns-in-Trailing g c = puts_same g.W.Sink _ _ _ _ _ (ap (λ (r : Refusal). json_line (error_json (Refused r))) (sym c.in-Trailing.is)) c.put_all-in-Trailing.ensures
