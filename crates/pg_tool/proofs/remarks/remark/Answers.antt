use Rattle.std.proofs.Common.{Bool, subst}
use Rattle.pg_report.specs.Changes.{filled}
use Rattle.pg_tool.specs.Remarks.{Hints, SaysByte, is_hinted}
use Rattle.pg_tool.proofs.remarks.remark.Goals as goal

pub returns : goal.returns
returns g c =
    let byte = c.get-byte.result in
    let said = filled g.E.Sink c.args.errors.now c.say_byte.new.errors in
    let hinted = filled g.E.Sink c.say_byte.new.errors c.hint.new.errors in
    let P : Bool → Type 0 = λ b. SaysByte b byte said in
    let Q : Bool → Type 0 = λ b. Hints b c.writes_json-json.result hinted in
    let R : Bool → Type 0 = λ b. Hints (is_hinted c.args.command.now c.args.status c.if-unnamed.is_hinted) b hinted in
    (said.new, c.if-unnamed.is_hinted, byte, subst P c.is_input_named-told.ensures c.say_byte.ensures, subst R c.writes_json-json.ensures (subst Q c.is_hinted-hinted.ensures c.hint.ensures))
