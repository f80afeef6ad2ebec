use Rattle.pg_guest.proofs.Shapes.{each_carries_out}
use Rattle.pg_guest.proofs.script_laws.each_carries_out.Goals as goal

pub returns : goal.returns
returns c = each_carries_out
