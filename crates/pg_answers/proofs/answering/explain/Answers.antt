use Rattle.pg_answers.specs.declared.question.Question.TheVariants.{Explain}
use Rattle.pg_answers.specs.Answers.{IsAnswer}
use Rattle.pg_answers.proofs.Finding.{answered, not_read}
use Rattle.pg_answers.proofs.answering.explain.Goals as goal

pub returns-in-Ok : goal.returns-in-Ok
returns-in-Ok g c = answered (IsAnswer Explain) c.args.checkers _ c.in-Ok.history c.in-Ok.ensures.reads c.in-Ok.ensures.device c.explained.result c.explained.ensures.ok c.explained.ensures.err

pub returns-in-Err : goal.returns-in-Err
returns-in-Err g c = not_read (IsAnswer Explain) c.args.checkers _ c.in-Err.error c.in-Err.ensures.reads c.in-Err.ensures.device c.in-Err.ensures.alone
