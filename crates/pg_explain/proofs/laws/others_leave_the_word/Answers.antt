use Rattle.pg_explain.proofs.Writers.{others_leave_the_word}
use Rattle.pg_explain.proofs.laws.others_leave_the_word.Goals as goal

pub returns : goal.returns
returns c = others_leave_the_word
