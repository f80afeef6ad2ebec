use Rattle.std.proofs.Common.{Bool, subst}
use Rattle.pg_report.specs.Changes.{filled}
use Rattle.pg_tool.specs.Answers.{NamesInput}
use Rattle.pg_tool.proofs.inputs.perform_named.Goals as goal

pub returns : goal.returns
returns g c =
    let named = filled g.E.Sink c.perform-status.new.errors c.name_input.new.errors in
    let P : Bool → Type 0 = λ b. NamesInput b c.args.name.now named in
    ((filled g.E.Sink c.args.errors.now c.perform-status.new.errors).new, named.new, c.perform-status.ensures, subst P c.is_input_named.ensures c.name_input.ensures, c.remark.ensures)
