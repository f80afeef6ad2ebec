use Rattle.pg_guest.proofs.CoreRuns.{turns_keep_quiet}
use Rattle.pg_guest.proofs.laws.turns_keep_quiet.Goals as goal

pub returns : goal.returns
returns c = turns_keep_quiet
