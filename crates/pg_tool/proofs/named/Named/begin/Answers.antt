use Rattle.std.proofs.Common.{Bool, sym, subst, codes}
use Rattle.std.proofs.lemmas.Result.{err_from_is_err_and}
use Rattle.pg_codec.proofs.Written.{puts_same}
use Rattle.pg_codec.proofs.Segments.{puts_then, puts_fails}
use Rattle.pg_codec.specs.Writing.{Puts}
use Rattle.pg_tool.specs.Names.{name_text}
use Rattle.pg_tool.proofs.named.Named.begin.Goals as goal

pub returns-in_err-put_all-clause-put : goal.returns-in_err-put_all-clause-put
returns-in_err-put_all-clause-put g c =
    let self = c.args.self.now in
    let p = err_from_is_err_and c.from_residual.result c.from_residual.ensures.1 in
    let P : Bool → Type 0 = λ b. Puts {X = Unit {0}} g.O.Sink (name_text self.name.now b) self.output.now c.put_all.new.sink c.from_residual.result in
    subst P (sym c.if-self.false) (rw (p.1, p.2) (puts_fails {X = Unit {0}} {Y = Unit {0}} g.O.Sink self.name.now (codes ": ") _ _ c.in_err-put_all.field-0.0
    (puts_same g.O.Sink _ _ _ _ _ c.as_bytes.ensures.value c.in_err-put_all.ensures)))

pub returns-in_err-put_all-2-clause-put : goal.returns-in_err-put_all-2-clause-put
returns-in_err-put_all-2-clause-put g c =
    let self = c.args.self.now in
    let p = err_from_is_err_and c.from_residual-in_err-put_all-2.result c.from_residual-in_err-put_all-2.ensures.1 in
    let P : Bool → Type 0 = λ b. Puts {X = Unit {0}} g.O.Sink (name_text self.name.now b) self.output.now c.put_all-2.new.sink c.from_residual-in_err-put_all-2.result in
    subst P (sym c.if-self.false) (rw (p.1, p.2) (puts_then g.O.Sink self.name.now (codes ": ") _ _ _ _ _
    (puts_same g.O.Sink _ _ _ _ _ c.as_bytes.ensures.value c.in_ok-put_all.ensures) c.in_err-put_all-2.ensures))
