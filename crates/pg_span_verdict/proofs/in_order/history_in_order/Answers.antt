use Rattle.pg_span_verdict.proofs.Fronts.{numbers_of_order}
use Rattle.pg_span_verdict.proofs.in_order.history_in_order.Goals as goal

pub history_of-requires : goal.history_of-requires
history_of-requires c = numbers_of_order c.args.run.now c.args.order.now c.requires.order_of
