use Rattle.std.proofs.Common.{arith}
use Rattle.pg_inval.proofs.Search.{halving-right, halving-left}
use Rattle.pg_inval.proofs.log.count_below.Goals as goal

pub loop-low-preserved-then-log-middle : goal.loop-low-preserved-then-log-middle
loop-low-preserved-then-log-middle c =
    halving-right c.args.log.now c.args.moment c.loop-low.low c.loop-low.high _ _ c.requires c.loop-low.invariant (omega arith) c.if-log-middle.true

pub loop-low-preserved : goal.loop-low-preserved
loop-low-preserved c =
    halving-left c.args.log.now c.args.moment c.loop-low.low c.loop-low.high _ _ c.requires c.loop-low.invariant (omega arith) (omega arith) c.if-log-middle.false
