use Rattle.pg_guest.proofs.Further.{entries_are_present}
use Rattle.pg_guest.proofs.laws.entries_are_present.Goals as goal

pub returns : goal.returns
returns c = entries_are_present
