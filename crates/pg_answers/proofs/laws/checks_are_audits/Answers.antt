use Rattle.pg_answers.proofs.Audited as proven
use Rattle.pg_answers.proofs.laws.checks_are_audits.Goals as goal

pub returns : goal.returns
returns c = proven.checks_are_audits
