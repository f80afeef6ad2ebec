use Rattle.pg_report.specs.Changes.{filled}
use Rattle.pg_tool.proofs.inputs.merge_asked.Goals as goal

pub returns : goal.returns
returns g c = ((filled g.E.Sink c.args.errors.now c.merge_named-status.new.errors).new, c.merge_named-status.ensures, c.remark.ensures)
