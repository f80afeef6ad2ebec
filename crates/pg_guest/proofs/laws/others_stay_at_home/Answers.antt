use Rattle.pg_guest.proofs.Turns.{others_stay_at_home}
use Rattle.pg_guest.proofs.laws.others_stay_at_home.Goals as goal

pub returns : goal.returns
returns c = others_stay_at_home
