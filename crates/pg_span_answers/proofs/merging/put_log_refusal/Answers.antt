use Rattle.std.proofs.Common.{ap, ap₂, sym}
use Rattle.std.proofs.lemmas.Result.{err_from_is_err_and}
use Rattle.pg_codec.proofs.Written.{puts_same}
use Rattle.pg_codec.proofs.Segments.{puts_then, puts_fails}
use Rattle.pg_report.specs.Numbers.{error_number, error_name}
use Rattle.pg_report.specs.declared.error.AuditError.TheVariants.{Refused}
use Rattle.pg_answers.specs.Refusals.{refusal_text, place_text}
use Rattle.pg_span_answers.specs.Merges.{log_refusal_text}
use Rattle.pg_span_answers.proofs.merging.put_log_refusal.Goals as goal

pub returns-in_err-put_refusal-in-Field : goal.returns-in_err-put_refusal-in-Field
returns-in_err-put_refusal-in-Field g c =
    let p = err_from_is_err_and c.from_residual.result c.from_residual.ensures.1 in
    let error = Refused c.in-Field.refusal in
    rw (p.1, p.2) (puts_same g.W.Sink _ _ _ _ _ (ap log_refusal_text (sym c.in-Field.is))
    (puts_fails {X = Unit {0}} {Y = Unit {0}} g.W.Sink (refusal_text (error_number error) (error_name error)) (place_text error) _ _ c.in_err-put_refusal-in-Field.field-0.0
    (puts_same g.W.Sink _ _ _ _ _ (ap₂ refusal_text c.number.ensures c.name.ensures) c.in_err-put_refusal-in-Field.ensures)))

pub returns-in_ok-put_refusal-in-Field : goal.returns-in_ok-put_refusal-in-Field
returns-in_ok-put_refusal-in-Field g c =
    let error = Refused c.in-Field.refusal in
    puts_same g.W.Sink _ _ _ _ _ (ap log_refusal_text (sym c.in-Field.is))
    (puts_then g.W.Sink (refusal_text (error_number error) (error_name error)) (place_text error) _ _ _ _ _
    (puts_same g.W.Sink _ _ _ _ _ (ap₂ refusal_text c.number.ensures c.name.ensures) c.in_ok-put_refusal-in-Field.ensures) c.put_place.ensures)

pub returns-in-Stamps : goal.returns-in-Stamps
returns-in-Stamps g c = puts_same g.W.Sink _ _ _ _ _ (ap log_refusal_text (sym c.in-Stamps.is)) c.put_number.ensures

pub returns-in-Processor : goal.returns-in-Processor
returns-in-Processor g c = puts_same g.W.Sink _ _ _ _ _ (ap log_refusal_text (sym c.in-Processor.is)) c.put_number-in-Processor.ensures
