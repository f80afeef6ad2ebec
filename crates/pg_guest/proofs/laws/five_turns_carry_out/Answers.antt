use Rattle.pg_guest.proofs.Counts.{five_turns_carry_out}
use Rattle.pg_guest.proofs.laws.five_turns_carry_out.Goals as goal

pub returns : goal.returns
returns c = five_turns_carry_out
