use Rattle.std.proofs.Common.{◌≡◌, ◌≤◌, ◌+◌, ◌-◌, max, List, ℕ}
use Rattle.std.specs.Prelude.{IfSome}
use Rattle.pg_search.specs.Law.{AreWitness}
use Rattle.pg_reach.specs.Reaching.{IsFresher}
use Rattle.pg_reach.specs.Ends.{AreRefused}
use Rattle.pg_reach.proofs.view.View.end_in.Given as goal

abbrev pub invariant-loop-at : goal.invariant-loop-at
invariant-loop-at l = record {
  order : max l.x.from l.since ≤ l.at;
  memo : l.memo ≡ l.fn.memo;
  some : IfSome l.best (AreWitness l.self.run.head l.self.run.events l.self.walker.number l.self.event);
  fresher : (ws : List ℕ) → IsFresher l.self.walker.freshest l.fn.found ws → IsFresher l.self.walker.freshest l.best ws;
  none : AreRefused l.self.run l.self.walker l.self.event l.level (max l.x.from l.since) l.at l.x l.best;
}

abbrev pub decreases-loop-at : goal.decreases-loop-at
decreases-loop-at l = l.last + 1 - l.at
