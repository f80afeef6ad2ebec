use Rattle.pg_guest.proofs.Numbers.{transcripts_hold_all}
use Rattle.pg_guest.proofs.laws.transcripts_hold_all.Goals as goal

pub returns : goal.returns
returns c = transcripts_hold_all
