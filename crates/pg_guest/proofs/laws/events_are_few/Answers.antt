use Rattle.pg_guest.proofs.Few.{events_are_few}
use Rattle.pg_guest.proofs.laws.events_are_few.Goals as goal

pub returns : goal.returns
returns c = events_are_few
