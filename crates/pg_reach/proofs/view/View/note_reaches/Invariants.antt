use Rattle.std.proofs.Common.{◌≡◌, ◌+◌, take, max, min}
use Rattle.std.specs.List.{All}
use Rattle.pg_event.specs.declared.event.Outcome.{Outcome}
use Rattle.pg_reach.specs.Placed.{with_outcome}
use Rattle.pg_reach.specs.Ends.{AreRefused}
use Rattle.pg_reach.specs.ByOutcome.{found_at, IsGrown}
use Rattle.pg_reach.proofs.view.View.note_reaches.Given as goal

abbrev pub invariant-loop-x : goal.invariant-loop-x
invariant-loop-x l = record {
  memo : l.memo ≡ l.fn.memo;
  grown : IsGrown l.self.run l.self.walker.number l.self.walker.freshest l.self.event (found_at l.fn.found) (found_at l.found);
  none : (o : Outcome) → All (λ x. AreRefused l.self.run l.self.walker (with_outcome o l.self.event) l.level (max x.from l.since) (min x.to l.self.walker.number + 1) x ((found_at l.found) o)) (take l.x-index l.reaches);
}
