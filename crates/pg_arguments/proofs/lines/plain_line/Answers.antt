use Rattle.pg_arguments.proofs.lines.plain_line.Goals as goal

pub returns : goal.returns
returns c = c.with_progress.ensures _ c.new_line.ensures
