use Rattle.pg_guest.proofs.CoreRuns.{core_runs_go_on}
use Rattle.pg_guest.proofs.laws.core_runs_go_on.Goals as goal

pub returns : goal.returns
returns c = core_runs_go_on
