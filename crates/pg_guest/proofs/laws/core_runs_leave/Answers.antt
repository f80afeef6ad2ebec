use Rattle.pg_guest.proofs.Leaves.{core_runs_leave}
use Rattle.pg_guest.proofs.laws.core_runs_leave.Goals as goal

pub returns : goal.returns
returns c = core_runs_leave
