use Rattle.pg_explain.proofs.Writers.{unwritten_words_stay}
use Rattle.pg_explain.proofs.laws.unwritten_words_stay.Goals as goal

pub returns : goal.returns
returns c = unwritten_words_stay
