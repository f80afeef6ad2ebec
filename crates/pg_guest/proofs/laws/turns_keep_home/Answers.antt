use Rattle.pg_guest.proofs.Turns.{turns_keep_home}
use Rattle.pg_guest.proofs.laws.turns_keep_home.Goals as goal

pub returns : goal.returns
returns c = turns_keep_home
