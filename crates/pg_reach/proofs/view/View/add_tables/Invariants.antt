use Rattle.std.proofs.Common.{◌≤◌, ◌+◌, ◌-◌, max}
use Rattle.pg_reach.specs.Reaching.{IsFilled}
use Rattle.pg_reach.proofs.view.View.add_tables.Given as goal

abbrev pub invariant-loop-at : goal.invariant-loop-at
invariant-loop-at l = record {
  order : max l.x.from l.low ≤ l.at;
  filled : IsFilled l.self.run l.self.walker l.level (max l.x.from l.low) l.at l.x l.fn.nexts l.nexts;
}

abbrev pub decreases-loop-at : goal.decreases-loop-at
decreases-loop-at l = l.last + 1 - l.at
