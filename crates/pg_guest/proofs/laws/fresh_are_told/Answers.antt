use Rattle.pg_guest.proofs.Transcripts.{fresh_are_told}
use Rattle.pg_guest.proofs.laws.fresh_are_told.Goals as goal

pub returns : goal.returns
returns c = fresh_are_told
