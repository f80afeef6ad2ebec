use Rattle.std.proofs.Common.{arith}
use Rattle.pg_check.proofs.history.check_segment.Goals as goal

pub check_segment-requires-clause-segment : goal.check_segment-requires-clause-segment
check_segment-requires-clause-segment c = record {
  of = c.args.history.now;
  stretch = c.stretch-stretch.ensures.stretch;
  starts = omega (arith, c.stretch-stretch.ensures.first);
  within = c.requires;
}
