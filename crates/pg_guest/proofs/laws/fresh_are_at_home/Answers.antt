use Rattle.pg_guest.proofs.Turns.{fresh_are_at_home}
use Rattle.pg_guest.proofs.laws.fresh_are_at_home.Goals as goal

pub returns : goal.returns
returns c = fresh_are_at_home
