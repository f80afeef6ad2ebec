use Rattle.std.proofs.Common.{List, ℕ, ◌++◌, codes, decimal}
use Rattle.std.proofs.lemmas.Result.{err_from_is_err_and}
use Rattle.pg_codec.proofs.Segments.{puts_then, puts_fails}
use Rattle.pg_tool.proofs.guest_refusals.put_script_line.Goals as goal

abbrev at : ℕ → List ℕ
at line = codes "pcid-audit: script line " ++ decimal line

abbrev by : ℕ → List ℕ
by number = codes " refused " ++ decimal number

abbrev named : List ℕ → List ℕ
named name = codes " " ++ (name ++ codes "\n")

pub returns-in_err-put_number : goal.returns-in_err-put_number
returns-in_err-put_number g c =
    let p = err_from_is_err_and c.from_residual.result c.from_residual.ensures.1 in
    rw (p.1, p.2) (puts_fails {X = Unit {0}} {Y = Unit {0}} g.W.Sink (at c.args.line) (by c.args.number ++ named c.args.name.now) _ _ c.in_err-put_number.field-0.0 c.in_err-put_number.ensures)

pub returns-in_err-put_number-2 : goal.returns-in_err-put_number-2
returns-in_err-put_number-2 g c =
    let p = err_from_is_err_and c.from_residual-in_err-put_number-2.result c.from_residual-in_err-put_number-2.ensures.1 in
    rw (p.1, p.2) (puts_then g.W.Sink (at c.args.line) (by c.args.number ++ named c.args.name.now) _ _ _ _ _ c.in_ok-put_number.ensures
    (puts_fails {X = Unit {0}} {Y = Unit {0}} g.W.Sink (by c.args.number) (named c.args.name.now) _ _ c.in_err-put_number-2.field-0.0 c.in_err-put_number-2.ensures))

pub returns : goal.returns
returns g c =
    puts_then g.W.Sink (at c.args.line) (by c.args.number ++ named c.args.name.now) _ _ _ _ _ c.in_ok-put_number.ensures
    (puts_then g.W.Sink (by c.args.number) (named c.args.name.now) _ _ _ _ _ c.in_ok-put_number-2.ensures c.put_name.ensures)
