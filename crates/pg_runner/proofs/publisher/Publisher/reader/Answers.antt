use Rattle.std.proofs.Common.{rules}
use Rattle.pg_runner.proofs.Steps.{splits}
use Rattle.pg_runner.proofs.publisher.Publisher.reader.Goals as goal

pub split_seat-seat-requires : goal.split_seat-seat-requires
split_seat-seat-requires c = (search rules, search rules, splits _ _)
