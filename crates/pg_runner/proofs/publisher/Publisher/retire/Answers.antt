use Rattle.std.proofs.Common.{rules, ap}
use Rattle.pg_runner.proofs.Steps.{retires, confirms}
use Rattle.pg_runner.specs.declared.seen.Seen.{Seen}
use Rattle.pg_runner.proofs.publisher.Publisher.retire.Goals as goal

pub join_seat-requires : goal.join_seat-requires
join_seat-requires c = (search rules, search rules, search rules, search rules, retires _ _ _ _ (ap (λ (v : Seen). v.stores) c.self.invariant.knows))

pub load-requires : goal.load-requires
load-requires c = (search rules, search rules, confirms _ _ _)
