use Rattle.std.proofs.Common.{◌++◌, codes, decimal, ap, sym}
use Rattle.std.proofs.lemmas.Result.{err_from_is_err_and}
use Rattle.pg_codec.proofs.Written.{puts_same}
use Rattle.pg_codec.proofs.Segments.{puts_then, puts_fails}
use Rattle.pg_span_answers.specs.Refusals.{spans_line}
use Rattle.pg_span_answers.proofs.refusals.put_refusal.Goals as goal

pub returns-in-Plain : goal.returns-in-Plain
returns-in-Plain g c = puts_same g.W.Sink _ _ _ _ _ (ap spans_line (sym c.in-Plain.is)) c.put_error.ensures

pub returns-in_err-put_number-in-Back : goal.returns-in_err-put_number-in-Back
returns-in_err-put_number-in-Back g c =
    let p = err_from_is_err_and c.from_residual.result c.from_residual.ensures.1 in
    let event = c.in-Back.event in
    rw (p.1, p.2) (puts_same g.W.Sink _ _ _ _ _ (ap spans_line (sym c.in-Back.is)) (puts_fails {X = Unit {0}} {Y = Unit {0}} g.W.Sink (codes "pcid-audit: refused 7 malformed event " ++ decimal event) (codes " rule 7\n") _ _ c.in_err-put_number-in-Back.field-0.0 c.in_err-put_number-in-Back.ensures))

pub returns-in_ok-put_number-in-Back : goal.returns-in_ok-put_number-in-Back
returns-in_ok-put_number-in-Back g c =
    let event = c.in-Back.event in
    puts_same g.W.Sink _ _ _ _ _ (ap spans_line (sym c.in-Back.is)) (puts_then g.W.Sink (codes "pcid-audit: refused 7 malformed event " ++ decimal event) (codes " rule 7\n") _ _ _ _ _ c.in_ok-put_number-in-Back.ensures c.put_all.ensures)
