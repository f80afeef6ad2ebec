use Rattle.pg_guest.proofs.CoreRuns.{core_runs_keep_quiet}
use Rattle.pg_guest.proofs.laws.core_runs_keep_quiet.Goals as goal

pub returns : goal.returns
returns c = core_runs_keep_quiet
