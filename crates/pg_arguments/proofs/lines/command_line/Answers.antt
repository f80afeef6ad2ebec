use Rattle.pg_arguments.proofs.lines.command_line.Goals as goal

pub returns : goal.returns
returns c =
    let upgrade = c.with_command-line.ensures _ _ c.telling_line.ensures c.plain_line.ensures in
    c.with_command.ensures _ _ upgrade c.merge_line.ensures
