use Rattle.std.proofs.Common.{codes}
use Rattle.std.proofs.lemmas.Result.{err_from_is_err_and}
use Rattle.pg_codec.proofs.Segments.{puts_then, puts_fails}
use Rattle.pg_answers.specs.Refusals.{refusal_text}
use Rattle.pg_answers.proofs.refusals.put_line.Goals as goal

pub returns-in_err-put_refusal : goal.returns-in_err-put_refusal
returns-in_err-put_refusal g c =
    let p = err_from_is_err_and c.from_residual.result c.from_residual.ensures.1 in
    rw (p.1, p.2) (puts_fails {X = Unit {0}} {Y = Unit {0}} g.W.Sink (refusal_text c.args.number c.args.name.now) (codes "\n") _ _ c.in_err-put_refusal.field-0.0 c.in_err-put_refusal.ensures)

pub returns : goal.returns
returns g c = puts_then g.W.Sink (refusal_text c.args.number c.args.name.now) (codes "\n") _ _ _ _ _ c.in_ok-put_refusal.ensures c.put_all.ensures
