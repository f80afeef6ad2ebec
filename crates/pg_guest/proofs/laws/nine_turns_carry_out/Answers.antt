use Rattle.pg_guest.proofs.Counts.{nine_turns_carry_out}
use Rattle.pg_guest.proofs.laws.nine_turns_carry_out.Goals as goal

pub returns : goal.returns
returns c = nine_turns_carry_out
