use Rattle.pg_arguments.proofs.lines.judging_line.Goals as goal

pub returns : goal.returns
returns c =
    let check = c.with_command-line.ensures _ _ c.bare_line.ensures c.check_line.ensures in
    c.with_command.ensures _ _ check c.certify_line.ensures
