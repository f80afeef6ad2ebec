use Rattle.std.proofs.Common.{false}
use Rattle.pg_reach.proofs.Cases.{processor_there}
use Rattle.pg_reach.proofs.last.last_moments_at.Goals as goal

pub control_at-requires : goal.control_at-requires
control_at-requires c = processor_there c.args.seen.now.head (record { p = c.in-Some.p; la = c.in-Some.la; pcid = 0; number = 0; freshest = false }) c.args.event.now (c.in-Some.ensures 0 0 false) c.requires.well
