use Rattle.std.proofs.Common.{arith}
use Rattle.pg_entry.proofs.Bounds.{field-below}
use Rattle.pg_machine.proofs.processor.Processor.started.Goals as goal

pub invariant_of-result : goal.invariant_of-result
invariant_of-result c = rw c.loaded.ensures (field-below c.args.start.0 12 c.args.maxphyaddr (omega arith) (omega arith))
