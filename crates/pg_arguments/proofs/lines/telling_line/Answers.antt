use Rattle.pg_arguments.proofs.lines.telling_line.Goals as goal

pub returns : goal.returns
returns c =
    let explain = c.with_command-line.ensures _ _ c.running_line.ensures c.explain_line.ensures in
    let show = c.with_command-line-2.ensures _ _ explain c.show_line.ensures in
    c.with_command.ensures _ _ show c.outcomes_line.ensures
