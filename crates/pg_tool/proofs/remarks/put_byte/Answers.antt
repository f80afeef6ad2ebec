use Rattle.std.proofs.Common.{◌++◌, codes, decimal}
use Rattle.std.proofs.lemmas.Result.{err_from_is_err_and}
use Rattle.pg_codec.proofs.Segments.{puts_then, puts_fails}
use Rattle.pg_tool.proofs.remarks.put_byte.Goals as goal

pub returns-in_err-put_number : goal.returns-in_err-put_number
returns-in_err-put_number g c =
    let p = err_from_is_err_and c.from_residual.result c.from_residual.ensures.1 in
    rw (p.1, p.2) (puts_fails {X = Unit {0}} {Y = Unit {0}} g.E.Sink (codes "pcid-audit: reading stopped at byte " ++ decimal c.args.byte) (codes "\n") _ _ c.in_err-put_number.field-0.0 c.in_err-put_number.ensures)

pub returns : goal.returns
returns g c =
    puts_then g.E.Sink (codes "pcid-audit: reading stopped at byte " ++ decimal c.args.byte) (codes "\n") _ _ _ _ _ c.in_ok-put_number.ensures c.put_all.ensures
