use Rattle.std.proofs.Common.{◌≡◌, ◌+◌, take, max, min, ℕ}
use Rattle.std.specs.List.{All}
use Rattle.pg_reach.specs.WitnessedUpTo.{IsUpTo, IsFoundAfter, ArePassed}
use Rattle.pg_reach.proofs.view.View.last_among.Given as goal

abbrev pub invariant-loop-x : goal.invariant-loop-x
invariant-loop-x l = record {
  memo : l.memo ≡ l.fn.memo;
  some : IsFoundAfter l.self.run l.self.walker l.self.event l.fn.found l.last;
  later : (j : ℕ) → IsUpTo l.fn.found j → IsUpTo l.last j;
  passed : All (λ x. ArePassed l.self.run l.self.walker l.self.event l.level (max x.from 0) (min x.to l.self.walker.number + 1) x l.last) (take l.x-index l.reaches);
}
