use Rattle.pg_guest.proofs.CoreRuns.{core_runs_are_accepted}
use Rattle.pg_guest.proofs.laws.core_runs_are_accepted.Goals as goal

pub returns : goal.returns
returns c = core_runs_are_accepted
