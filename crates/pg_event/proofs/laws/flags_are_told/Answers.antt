use Rattle.pg_event.proofs.Flags.{flags_are_told}
use Rattle.pg_event.proofs.laws.flags_are_told.Goals as goal

pub returns : goal.returns
returns c = flags_are_told
