use Rattle.pg_arguments.proofs.lines.outcomes_line.Goals as goal

pub returns : goal.returns
returns c =
    let event = c.with_option-line.ensures _ _ c.new_line-line.ensures c.number_option.ensures in
    let most = c.with_option-line-2.ensures _ _ event c.limit_option.ensures in
    let json = c.with_option-line-3.ensures _ _ most c.switch.ensures in
    c.with_progress.ensures _ json
