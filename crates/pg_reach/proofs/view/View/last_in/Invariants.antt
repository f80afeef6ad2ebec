use Rattle.std.proofs.Common.{◌≡◌, ◌≤◌, ◌+◌, ◌-◌, max, ℕ}
use Rattle.pg_reach.specs.WitnessedUpTo.{IsUpTo, IsFoundAfter, ArePassed}
use Rattle.pg_reach.proofs.view.View.last_in.Given as goal

abbrev pub invariant-loop-at : goal.invariant-loop-at
invariant-loop-at l = record {
  order : max l.x.from 0 ≤ l.at;
  memo : l.memo ≡ l.fn.memo;
  some : IsFoundAfter l.self.run l.self.walker l.self.event l.fn.found l.last;
  later : (j : ℕ) → IsUpTo l.fn.found j → IsUpTo l.last j;
  passed : ArePassed l.self.run l.self.walker l.self.event l.level (max l.x.from 0) l.at l.x l.last;
}

abbrev pub decreases-loop-at : goal.decreases-loop-at
decreases-loop-at l = l.end + 1 - l.at
