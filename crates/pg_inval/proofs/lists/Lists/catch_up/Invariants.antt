use Rattle.std.proofs.Common.{length, ◌-◌}
use Rattle.pg_inval.specs.Lists.{IsListed}
use Rattle.pg_inval.proofs.lists.Lists.catch_up.Given as goal

abbrev pub invariant-loop-self : goal.invariant-loop-self
invariant-loop-self l = IsListed l.class l.log l.self.known l.self.by_key.entries

abbrev pub decreases-loop-self : goal.decreases-loop-self
decreases-loop-self l = length l.log - l.self.known
