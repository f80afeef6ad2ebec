use Rattle.pg_arguments.proofs.lines.with_progress.Goals as goal

pub returns : goal.returns
returns c = λ app line. c.with_option.ensures _ _ (c.with_told.ensures _ line) c.file_option.ensures
