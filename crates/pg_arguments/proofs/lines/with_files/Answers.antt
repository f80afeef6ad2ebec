use Rattle.pg_arguments.proofs.lines.with_files.Goals as goal

pub returns : goal.returns
returns c = λ app line. c.with_option.ensures _ _ (c.with_told.ensures _ line) c.files_option.ensures
