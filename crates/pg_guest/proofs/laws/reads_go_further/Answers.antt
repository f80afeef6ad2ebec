use Rattle.pg_guest.proofs.Further.{reads_go_further}
use Rattle.pg_guest.proofs.laws.reads_go_further.Goals as goal

pub returns : goal.returns
returns c = reads_go_further
