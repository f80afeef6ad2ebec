use Rattle.std.proofs.Common.{◌++◌, codes, ap₂}
use Rattle.std.proofs.lemmas.Result.{err_from_is_err_and}
use Rattle.pg_codec.proofs.Written.{puts_same}
use Rattle.pg_codec.proofs.Segments.{puts_then, puts_fails}
use Rattle.pg_report.specs.Numbers.{error_number, error_name}
use Rattle.pg_answers.specs.Refusals.{refusal_text, place_text}
use Rattle.pg_answers.proofs.refusals.put_fixed.Goals as goal

pub returns-in_err-put_refusal : goal.returns-in_err-put_refusal
returns-in_err-put_refusal g c =
    let p = err_from_is_err_and c.from_residual.result c.from_residual.ensures.1 in
    let error = c.args.error in
    rw (p.1, p.2) (puts_fails {X = Unit {0}} {Y = Unit {0}} g.W.Sink (refusal_text (error_number error) (error_name error)) (place_text error ++ codes "\n") _ _ c.in_err-put_refusal.field-0.0
    (puts_same g.W.Sink _ _ _ _ _ (ap₂ refusal_text c.number.ensures c.name.ensures) c.in_err-put_refusal.ensures))

pub returns-in_err-put_place : goal.returns-in_err-put_place
returns-in_err-put_place g c =
    let p = err_from_is_err_and c.from_residual-in_err-put_place.result c.from_residual-in_err-put_place.ensures.1 in
    let error = c.args.error in
    rw (p.1, p.2) (puts_then g.W.Sink (refusal_text (error_number error) (error_name error)) (place_text error ++ codes "\n") _ _ _ _ _
    (puts_same g.W.Sink _ _ _ _ _ (ap₂ refusal_text c.number.ensures c.name.ensures) c.in_ok-put_refusal.ensures)
    (puts_fails {X = Unit {0}} {Y = Unit {0}} g.W.Sink (place_text error) (codes "\n") _ _ c.in_err-put_place.field-0.0 c.in_err-put_place.ensures))

pub returns : goal.returns
returns g c =
    let error = c.args.error in
    puts_then g.W.Sink (refusal_text (error_number error) (error_name error)) (place_text error ++ codes "\n") _ _ _ _ _
    (puts_same g.W.Sink _ _ _ _ _ (ap₂ refusal_text c.number.ensures c.name.ensures) c.in_ok-put_refusal.ensures)
    (puts_then g.W.Sink (place_text error) (codes "\n") _ _ _ _ _ c.in_ok-put_place.ensures c.put_all.ensures)
