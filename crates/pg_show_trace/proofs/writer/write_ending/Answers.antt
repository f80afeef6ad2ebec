use Rattle.std.proofs.Common.{◌∙◌}
use Rattle.std.proofs.lemmas.Result.{err_from_is_err_and}
use Rattle.pg_report.specs.Changes.{filled}
use Rattle.pg_show_trace.specs.Objects.{ending_text}
use Rattle.pg_show_trace.specs.Texts.{marking}
use Rattle.pg_show_trace.proofs.Parts.{part_is, part_unmade}
use Rattle.pg_show_trace.proofs.writer.write_ending.Goals as goal

pub returns-in_err-text : goal.returns-in_err-text
returns-in_err-text g c =
    let p = err_from_is_err_and c.from_residual.result c.from_residual.ensures.1 in
    rw (p.1, p.2) (part_unmade g.O.Sink c.args.output.now (ending_text (marking c.args.scene.now.mark)))

pub returns : goal.returns
returns g c =
    part_is (filled g.O.Sink c.args.output.now c.write_part.new.output) c.as_str.result.now (ending_text (marking c.args.scene.now.mark)) c.write_part.result (c.as_str.ensures.value ∙ c.in_ok-text.ensures) c.write_part.ensures
