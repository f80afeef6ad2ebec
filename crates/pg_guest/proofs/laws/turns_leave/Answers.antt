use Rattle.pg_guest.proofs.Leaves.{turns_leave}
use Rattle.pg_guest.proofs.laws.turns_leave.Goals as goal

pub returns : goal.returns
returns c = turns_leave
