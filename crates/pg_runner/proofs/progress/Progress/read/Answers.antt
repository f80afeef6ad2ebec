use Rattle.std.proofs.Common.{rules}
use Rattle.pg_runner.proofs.Steps.{loads}
use Rattle.pg_runner.proofs.progress.Progress.read.Goals as goal

pub load-word-requires : goal.load-word-requires
load-word-requires c = (search rules, search rules, loads _ _ _ c.seat.invariant.reads)
