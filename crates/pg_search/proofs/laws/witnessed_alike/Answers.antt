use Rattle.pg_search.proofs.Carries.{witnessed_alike}
use Rattle.pg_search.proofs.laws.witnessed_alike.Goals as goal

pub returns : goal.returns
returns c = witnessed_alike
