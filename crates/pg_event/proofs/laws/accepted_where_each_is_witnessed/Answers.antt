use Rattle.pg_event.proofs.Accepted.{accepted_where_each_is_witnessed}
use Rattle.pg_event.proofs.laws.accepted_where_each_is_witnessed.Goals as goal

pub returns : goal.returns
returns c = accepted_where_each_is_witnessed
