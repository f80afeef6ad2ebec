use Rattle.pg_event.proofs.FewerRules.{fewer_rules_drop_less}
use Rattle.pg_event.proofs.laws.fewer_rules_drop_less.Goals as goal

pub returns : goal.returns
returns c = fewer_rules_drop_less
