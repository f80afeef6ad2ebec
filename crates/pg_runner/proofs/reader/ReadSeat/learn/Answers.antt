use Rattle.std.proofs.Common.{rules}
use Rattle.pg_runner.proofs.Steps.{learns}
use Rattle.pg_runner.proofs.reader.ReadSeat.learn.Goals as goal

pub join_seat-requires : goal.join_seat-requires
join_seat-requires c = (search rules, search rules, search rules, search rules, learns _ _ _ _ c.self.invariant.reads)
