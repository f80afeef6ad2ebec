use Rattle.std.proofs.Common.{refl}
use Rattle.std.proofs.KnownBytes.{Keeps-refl}
use Rattle.pg_answers.specs.declared.answer.Answer.TheVariants.{Report}
use Rattle.pg_answers.specs.AnswerTexts.{answer_text}
use Rattle.pg_answers.specs.Audited.{IsCheckText}
use Rattle.pg_answers.specs.Firsts.{bad_in}
use Rattle.pg_answers.proofs.GivenFirsts.{first_fails, first_told}
use Rattle.std.proofs.Common.{ap}
use Rattle.pg_report.specs.declared.report.Report.{Report as Reported}
use Rattle.pg_answers.proofs.first_checks.write_first_check.Goals as goal

pub returns-in-Ok : goal.returns-in-Ok
returns-in-Ok g c =
    let judged = c.in-Ok.ensures.judges in
    let x = Report c.in-Ok.report in
    let wrote = c.write_answer.ensures in
    first_told IsCheckText bad_in _ _ judged.0 x judged.2 c.in-Ok.ensures.device (answer_text x) (ap (λ (r : Reported). Report r) judged.1, refl) c.write_answer.result wrote.text wrote.device wrote.same

pub returns-in-Err : goal.returns-in-Err
returns-in-Err g c = first_fails IsCheckText bad_in _ _ c.in-Err.error c.in-Err.ensures.judges c.in-Err.ensures.device (Keeps-refl _) refl
