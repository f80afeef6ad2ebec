use Rattle.pg_event.specs.Spelling.{record_bytes}
use Rattle.pg_report.specs.Changes.{filled}
use Rattle.pg_answers.specs.declared.shown.ReportText.{ReportText}
use Rattle.pg_answers.proofs.GivenTexts.{of_error}
use Rattle.pg_answers.proofs.upgrader.write_told.Goals as goal

pub returns-in-Err-clause-written : goal.returns-in-Err-clause-written
returns-in-Err-clause-written g c = of_error Unit ReportText (filled g.O.Sink c.args.output.now c.write_history.new.output) (record_bytes c.args.history.now) c.in-Err.error c.in-Err.ensures.text
