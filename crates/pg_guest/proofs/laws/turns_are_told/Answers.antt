use Rattle.pg_guest.proofs.Transcripts.{turns_are_told}
use Rattle.pg_guest.proofs.laws.turns_are_told.Goals as goal

pub returns : goal.returns
returns c = turns_are_told
