use Rattle.std.proofs.Common.{List, ℕ, ◌++◌, codes, ap}
use Rattle.std.proofs.lemmas.Result.{err_from_is_err_and}
use Rattle.pg_codec.proofs.Written.{puts_same}
use Rattle.pg_codec.proofs.Segments.{puts_then, puts_fails}
use Rattle.pg_answers.specs.Reasons.{error_words, event_of, subject_text}
use Rattle.pg_answers.proofs.reasons.put_words.Goals as goal

abbrev told : List ℕ → List ℕ
told words = codes " " ++ (words ++ codes "\n")

pub returns-in_err-put_subject : goal.returns-in_err-put_subject
returns-in_err-put_subject g c =
    let error = c.args.error in
    let p = err_from_is_err_and c.from_residual.result c.from_residual.ensures.1 in
    rw (p.1, p.2) (puts_fails {X = Unit {0}} {Y = Unit {0}} g.W.Sink (subject_text (event_of error)) (told (error_words error)) _ _ c.in_err-put_subject.field-0.0
    (puts_same g.W.Sink _ _ _ _ _ (ap subject_text c.event_of.ensures) c.in_err-put_subject.ensures))

pub returns : goal.returns
returns g c =
    let error = c.args.error in
    puts_then g.W.Sink (subject_text (event_of error)) (told (error_words error)) _ _ _ _ _
    (puts_same g.W.Sink _ _ _ _ _ (ap subject_text c.event_of.ensures) c.in_ok-put_subject.ensures)
    (puts_same g.W.Sink _ _ _ _ c.put_name.result (ap told c.error_words.ensures) c.put_name.ensures)
