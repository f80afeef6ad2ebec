use Rattle.pg_guest.proofs.Transcripts.{core_runs_are_told}
use Rattle.pg_guest.proofs.laws.core_runs_are_told.Goals as goal

pub returns : goal.returns
returns c = core_runs_are_told
