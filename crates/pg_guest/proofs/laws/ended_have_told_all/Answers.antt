use Rattle.pg_guest.proofs.Transcripts.{ended_have_told_all}
use Rattle.pg_guest.proofs.laws.ended_have_told_all.Goals as goal

pub returns : goal.returns
returns c = ended_have_told_all
