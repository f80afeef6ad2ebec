use Rattle.pg_arguments.proofs.lines.with_told.Goals as goal

pub returns : goal.returns
returns c = λ app line. c.with_outputs.ensures _ (c.with_option-line.ensures _ _ line c.switch.ensures)
