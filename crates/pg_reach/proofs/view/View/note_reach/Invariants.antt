use Rattle.std.proofs.Common.{◌≡◌, ◌≤◌, ◌+◌, ◌-◌, max}
use Rattle.pg_event.specs.declared.event.Outcome.{Outcome}
use Rattle.pg_reach.specs.Placed.{with_outcome}
use Rattle.pg_reach.specs.Ends.{AreRefused}
use Rattle.pg_reach.specs.ByOutcome.{found_at, IsGrown}
use Rattle.pg_reach.proofs.view.View.note_reach.Given as goal

abbrev pub invariant-loop-at : goal.invariant-loop-at
invariant-loop-at l = record {
  order : max l.x.from l.since ≤ l.at;
  memo : l.memo ≡ l.fn.memo;
  grown : IsGrown l.self.run l.self.walker.number l.self.walker.freshest l.self.event (found_at l.fn.found) (found_at l.found);
  none : (o : Outcome) → AreRefused l.self.run l.self.walker (with_outcome o l.self.event) l.level (max l.x.from l.since) l.at l.x ((found_at l.found) o);
}

abbrev pub decreases-loop-at : goal.decreases-loop-at
decreases-loop-at l = l.last + 1 - l.at
