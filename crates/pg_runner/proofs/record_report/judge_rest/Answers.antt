use Rattle.std.proofs.Common.{◌∙◌, ap}
use Rattle.pg_check.specs.Judging.{Findings}
use Rattle.pg_runner.proofs.WholeSegments.{rest_follows, rest_reported}
use Rattle.pg_runner.proofs.record_report.judge_rest.Goals as goal

pub judge-requires-clause-next : goal.judge-requires-clause-next
judge-requires-clause-next g c = λ _ _. rest_follows c.args.team c.args.all.now c.len-first.result c.requires.begun (c.len-first.ensures.count ∙ ap (λ (f : Findings). f.count) c.judged.ensures) c.requires.record

pub returns-in-Ok-clause-ok : goal.returns-in-Ok-clause-ok
returns-in-Ok-clause-ok g c =
    rest_reported c.args.team c.in-Ok.after c.args.all.now c.len-first.result c.report_of_judged.result c.requires.begun (c.len-first.ensures.count ∙ ap (λ (f : Findings). f.count) c.judged.ensures) (c.in-Ok.ensures.ok c.args.team.judged.head c.requires.begun.first c.requires.begun.watched.team)
    (rw c.judged-in-Ok.ensures at c.report_of_judged.ensures)
