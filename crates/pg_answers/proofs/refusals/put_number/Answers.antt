use Rattle.std.proofs.Common.{decimal, ◌∙◌}
use Rattle.std.proofs.lemmas.Result.{err_from_is_err_and}
use Rattle.pg_codec.proofs.Written.{puts_same}
use Rattle.pg_codec.proofs.Segments.{puts_then, puts_fails}
use Rattle.pg_answers.proofs.refusals.put_number.Goals as goal

pub returns-in_err-put_all : goal.returns-in_err-put_all
returns-in_err-put_all g c =
    let p = err_from_is_err_and c.from_residual.result c.from_residual.ensures.1 in
    rw (p.1, p.2) (puts_fails {X = Unit {0}} {Y = Unit {0}} g.W.Sink c.args.before.now (decimal c.args.number) _ _ c.in_err-put_all.field-0.0 c.in_err-put_all.ensures)

pub returns : goal.returns
returns g c =
    puts_then g.W.Sink c.args.before.now (decimal c.args.number) _ _ _ _ _ c.in_ok-put_all.ensures
    (puts_same g.W.Sink _ _ _ _ c.put_all-2.result (c.as_bytes.ensures.value ∙ c.format.ensures.text) c.put_all-2.ensures)
