use Rattle.std.proofs.lemmas.Result.{err_from_is_err_and}
use Rattle.pg_codec.proofs.Segments.{puts_then, puts_fails}
use Rattle.pg_answers.specs.Reasons.{words_line}
use Rattle.pg_answers.specs.Refusals.{fixed_line}
use Rattle.pg_answers.proofs.refusals.put_error.Goals as goal

pub returns-in_err-put_fixed : goal.returns-in_err-put_fixed
returns-in_err-put_fixed g c =
    let p = err_from_is_err_and c.from_residual.result c.from_residual.ensures.1 in
    rw (p.1, p.2) (puts_fails {X = Unit {0}} {Y = Unit {0}} g.W.Sink (fixed_line c.args.error) (words_line c.args.error) _ _ c.in_err-put_fixed.field-0.0 c.in_err-put_fixed.ensures)

pub returns : goal.returns
returns g c = puts_then g.W.Sink (fixed_line c.args.error) (words_line c.args.error) _ _ _ _ _ c.in_ok-put_fixed.ensures c.put_words.ensures
