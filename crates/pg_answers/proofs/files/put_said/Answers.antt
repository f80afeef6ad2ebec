use Rattle.std.proofs.Common.{◌++◌, codes}
use Rattle.std.proofs.lemmas.Result.{err_from_is_err_and}
use Rattle.pg_codec.proofs.Segments.{puts_then, puts_fails}
use Rattle.pg_answers.proofs.files.put_said.Goals as goal

pub returns-in_err-put_all : goal.returns-in_err-put_all
returns-in_err-put_all g c =
    let p = err_from_is_err_and c.from_residual.result c.from_residual.ensures.1 in
    rw (p.1, p.2) (puts_fails {X = Unit {0}} {Y = Unit {0}} g.W.Sink c.args.said.now (codes " " ++ (c.args.name.now ++ codes "\n")) _ _ c.in_err-put_all.field-0.0 c.in_err-put_all.ensures)

pub returns : goal.returns
returns g c = puts_then g.W.Sink c.args.said.now (codes " " ++ (c.args.name.now ++ codes "\n")) _ _ _ _ _ c.in_ok-put_all.ensures c.put_name.ensures
