use Rattle.pg_answers.specs.declared.question.Question.TheVariants.{ExplainAt}
use Rattle.pg_answers.specs.Answers.{IsAnswer}
use Rattle.pg_answers.proofs.Finding.{not_read}
use Rattle.pg_answers.proofs.answering.explain_at.Goals as goal

pub returns-in-Err : goal.returns-in-Err
returns-in-Err g c = not_read (IsAnswer (ExplainAt c.args.number)) 1 _ c.in-Err.error c.in-Err.ensures.reads c.in-Err.ensures.device c.in-Err.ensures.alone
