use Rattle.pg_guest.proofs.Counts.{turns_come_nearer}
use Rattle.pg_guest.proofs.laws.turns_come_nearer.Goals as goal

pub returns : goal.returns
returns c = turns_come_nearer
