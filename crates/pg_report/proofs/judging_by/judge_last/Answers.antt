use Rattle.std.proofs.Common.{◌++◌, refl}
use Rattle.pg_event.specs.Spelling.{Recorded}
use Rattle.pg_report.proofs.Ahead.{last_follows}
use Rattle.pg_report.proofs.Windows.{stopped_judges, stopped_counts}
use Rattle.pg_report.proofs.judging_by.judge_last.Goals as goal

pub judge-requires-clause-next : goal.judge-requires-clause-next
judge-requires-clause-next g c κs within = last_follows c.requires.last.0 c.args.team c.args.window.now c.requires.last.1

pub returns-in-Ok-clause-judges : goal.returns-in-Ok-clause-judges
returns-in-Ok-clause-judges g c = λ start h.
    let r : Recorded = record { head = c.args.team.judged.head; events = h.last.before ++ c.args.window.now } in
    let team = c.in-Ok.ensures.ok r.head h.last.before h.alike in
    (r, rw c.judged.ensures at (c.report_of_judged.ensures r.head r.events) team.judged, h.last.all)

pub returns-in-Err-clause-judges : goal.returns-in-Err-clause-judges
returns-in-Err-clause-judges g c = λ start h. stopped_judges start c.in-Err.error c.in-Err.ensures.err

pub returns-in-Err-clause-device : goal.returns-in-Err-clause-device
returns-in-Err-clause-device g c = λ f. stopped_counts c.in-Err.error f f c.in-Err.ensures.err refl
