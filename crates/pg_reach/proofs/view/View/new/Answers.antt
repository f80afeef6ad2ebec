use Rattle.pg_reach.proofs.Spans.{stays_by}
use Rattle.pg_reach.proofs.view.View.new.Goals as goal

pub invariant_of-result : goal.invariant_of-result
invariant_of-result c = stays_by c.args.seen.now c.args.walker c.args.low c.args.spans.now c.in_ok-stays.stays.items c.requires c.in_ok-stays.ensures
