use Rattle.pg_event.proofs.FewerRules.{witnessed_under_fewer_rules}
use Rattle.pg_event.proofs.laws.witnessed_under_fewer_rules.Goals as goal

pub returns : goal.returns
returns c = witnessed_under_fewer_rules
