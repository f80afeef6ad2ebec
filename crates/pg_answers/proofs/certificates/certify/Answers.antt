use Rattle.pg_answers.specs.declared.question.Question.TheVariants.{Certify}
use Rattle.pg_answers.specs.Answers.{IsAnswer}
use Rattle.pg_answers.proofs.Finding.{by_any}
use Rattle.pg_answers.proofs.certificates.certify.Goals as goal

pub returns-then-number-eq1 : goal.returns-then-number-eq1
returns-then-number-eq1 g c = by_any (IsAnswer Certify) c.args.checkers _ c.certify_as_read.result c.certify_as_read.ensures
