use Rattle.pg_machine.proofs.FewerRules.{runs_under_fewer_rules}
use Rattle.pg_machine.proofs.law.runs_under_fewer_rules.Goals as goal

pub returns : goal.returns
returns c = runs_under_fewer_rules
