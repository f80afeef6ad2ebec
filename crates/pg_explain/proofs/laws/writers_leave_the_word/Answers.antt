use Rattle.pg_explain.proofs.Writers.{writers_leave_the_word}
use Rattle.pg_explain.proofs.laws.writers_leave_the_word.Goals as goal

pub returns : goal.returns
returns c = writers_leave_the_word
