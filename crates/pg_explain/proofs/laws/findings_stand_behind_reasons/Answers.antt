use Rattle.pg_explain.proofs.Reasons.{findings_stand_behind_reasons}
use Rattle.pg_explain.proofs.laws.findings_stand_behind_reasons.Goals as goal

pub returns : goal.returns
returns c = findings_stand_behind_reasons
