use Rattle.std.proofs.Common.{◌++◌, codes, decimal, ap, sym}
use Rattle.std.proofs.lemmas.Result.{err_from_is_err_and}
use Rattle.pg_codec.proofs.Written.{puts_same}
use Rattle.pg_codec.proofs.Segments.{puts_then, puts_fails}
use Rattle.pg_answers.specs.Reasons.{subject_text}
use Rattle.pg_answers.proofs.reasons.put_subject.Goals as goal

pub returns-in_err-put_number-in-Some : goal.returns-in_err-put_number-in-Some
returns-in_err-put_number-in-Some g c =
    let p = err_from_is_err_and c.from_residual.result c.from_residual.ensures.1 in
    rw (p.1, p.2) (puts_same g.W.Sink _ _ _ _ _ (ap subject_text (sym c.in-Some.is)) (puts_fails {X = Unit {0}} {Y = Unit {0}} g.W.Sink (codes "pcid-audit: event " ++ decimal c.in-Some.event) (codes ":") _ _ c.in_err-put_number-in-Some.field-0.0 c.in_err-put_number-in-Some.ensures))

pub returns-in_ok-put_number-in-Some : goal.returns-in_ok-put_number-in-Some
returns-in_ok-put_number-in-Some g c =
    puts_same g.W.Sink _ _ _ _ _ (ap subject_text (sym c.in-Some.is)) (puts_then g.W.Sink (codes "pcid-audit: event " ++ decimal c.in-Some.event) (codes ":") _ _ _ _ _ c.in_ok-put_number-in-Some.ensures c.put_all-in-Some.ensures)

pub returns-in-None : goal.returns-in-None
returns-in-None g c = puts_same g.W.Sink _ _ _ _ _ (ap subject_text (sym c.in-None.is)) c.put_all.ensures
