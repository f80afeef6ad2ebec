use Rattle.pg_arguments.proofs.lines.run_line.Goals as goal

pub returns : goal.returns
returns c =
    let checkers = c.with_option-line.ensures _ _ c.new_line-line.ensures c.checkers_option.ensures in
    let single = c.with_option-line-2.ensures _ _ checkers c.switch.ensures in
    let bytes = c.with_option-line-3.ensures _ _ single c.switch-2.ensures in
    c.with_progress.ensures _ bytes
