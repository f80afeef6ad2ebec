use Rattle.std.proofs.Common.{◌++◌, codes}
use Rattle.std.proofs.lemmas.Result.{err_from_is_err_and}
use Rattle.pg_codec.proofs.Written.{puts_same}
use Rattle.pg_codec.proofs.Segments.{puts_then, puts_fails}
use Rattle.pg_answers.proofs.refusals.put_name.Goals as goal

pub returns-in_err-put_all : goal.returns-in_err-put_all
returns-in_err-put_all g c =
    let p = err_from_is_err_and c.from_residual.result c.from_residual.ensures.1 in
    rw (p.1, p.2) (puts_fails {X = Unit {0}} {Y = Unit {0}} g.W.Sink (codes " ") (c.args.name.now ++ codes "\n") _ _ c.in_err-put_all.field-0.0 c.in_err-put_all.ensures)

pub returns-in_err-put_all-2 : goal.returns-in_err-put_all-2
returns-in_err-put_all-2 g c =
    let p = err_from_is_err_and c.from_residual-in_err-put_all-2.result c.from_residual-in_err-put_all-2.ensures.1 in
    rw (p.1, p.2) (puts_then g.W.Sink (codes " ") (c.args.name.now ++ codes "\n") _ _ _ _ _ c.in_ok-put_all.ensures
    (puts_fails {X = Unit {0}} {Y = Unit {0}} g.W.Sink c.args.name.now (codes "\n") _ _ c.in_err-put_all-2.field-0.0
    (puts_same g.W.Sink _ _ _ _ _ c.as_bytes.ensures.value c.in_err-put_all-2.ensures)))

pub returns : goal.returns
returns g c =
    puts_then g.W.Sink (codes " ") (c.args.name.now ++ codes "\n") _ _ _ _ _ c.in_ok-put_all.ensures
    (puts_then g.W.Sink c.args.name.now (codes "\n") _ _ _ _ _ (puts_same g.W.Sink _ _ _ _ _ c.as_bytes.ensures.value c.in_ok-put_all-2.ensures) c.put_all-3.ensures)
