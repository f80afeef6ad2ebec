use Rattle.pg_arguments.proofs.lines.most_option.Goals as goal

pub returns : goal.returns
returns c = c.also_named.ensures _ c.most_number.ensures
