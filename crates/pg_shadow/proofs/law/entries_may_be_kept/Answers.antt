use Rattle.pg_shadow.proofs.Classified.{entries_may_be_kept}
use Rattle.pg_shadow.proofs.law.entries_may_be_kept.Goals as goal

pub returns : goal.returns
returns c = entries_may_be_kept
