use Rattle.pg_arguments.proofs.lines.with_outputs.Goals as goal

pub returns : goal.returns
returns c = λ app line. c.with_option.ensures _ _ (c.with_option-line.ensures _ _ line c.value_option.ensures) c.quiet_option.ensures
