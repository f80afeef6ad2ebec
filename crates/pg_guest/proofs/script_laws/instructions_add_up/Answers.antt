use Rattle.pg_guest.proofs.Sums.{instructions_add_up}
use Rattle.pg_guest.proofs.script_laws.instructions_add_up.Goals as goal

pub returns : goal.returns
returns c = instructions_add_up
