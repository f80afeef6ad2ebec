use Rattle.pg_arguments.proofs.lines.filter_line.Goals as goal

pub returns : goal.returns
returns c =
    let cpu = c.with_option-line.ensures _ _ c.new_line-line.ensures c.cpu_option.ensures in
    let page = c.with_option-line-2.ensures _ _ cpu c.value_option.ensures in
    let loads = c.with_option-line-3.ensures _ _ page c.switch.ensures in
    c.with_option.ensures _ _ loads c.value_option-2.ensures
