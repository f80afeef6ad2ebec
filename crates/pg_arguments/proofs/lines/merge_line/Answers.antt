use Rattle.pg_arguments.proofs.lines.merge_line.Goals as goal

pub returns : goal.returns
returns c =
    let error = c.with_option-line.ensures _ _ c.new_line-line.ensures c.error_option.ensures in
    let outputs = c.with_outputs-line.ensures _ error in
    c.with_option.ensures _ _ outputs c.logs_option.ensures
