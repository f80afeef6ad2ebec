use Rattle.std.proofs.Common.{length}
use Rattle.pg_run_of.proofs.walker.+push_walk.Given as goal

abbrev pub decreases-push_walk : goal.decreases-push_walk
decreases-push_walk l = length l.moments.now
