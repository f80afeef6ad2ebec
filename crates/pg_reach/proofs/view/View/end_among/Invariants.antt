use Rattle.std.proofs.Common.{◌≡◌, ◌+◌, take, max, min, List, ℕ}
use Rattle.std.specs.Prelude.{IfSome}
use Rattle.std.specs.List.{All}
use Rattle.pg_search.specs.Law.{AreWitness}
use Rattle.pg_reach.specs.Reaching.{IsFresher}
use Rattle.pg_reach.specs.Ends.{AreRefused}
use Rattle.pg_reach.proofs.view.View.end_among.Given as goal

abbrev pub invariant-loop-x : goal.invariant-loop-x
invariant-loop-x l = record {
  memo : l.memo ≡ l.fn.memo;
  some : IfSome l.best (AreWitness l.self.run.head l.self.run.events l.self.walker.number l.self.event);
  fresher : (ws : List ℕ) → IsFresher l.self.walker.freshest l.fn.found ws → IsFresher l.self.walker.freshest l.best ws;
  none : All (λ x. AreRefused l.self.run l.self.walker l.self.event l.level (max x.from l.since) (min x.to l.self.walker.number + 1) x l.best) (take l.x-index l.reaches);
}
