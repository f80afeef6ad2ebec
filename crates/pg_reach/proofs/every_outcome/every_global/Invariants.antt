use Rattle.std.proofs.Common.{◌≡◌, take}
use Rattle.std.specs.List.{All}
use Rattle.pg_event.specs.declared.event.Outcome.{Outcome}
use Rattle.pg_reach.specs.Placed.{with_outcome}
use Rattle.pg_reach.specs.Asking.{under, AreGlobal}
use Rattle.pg_reach.specs.ByOutcome.{found_at, IsGrown}
use Rattle.pg_reach.proofs.every_outcome.every_global.Given as goal

abbrev pub invariant-loop-pcid : goal.invariant-loop-pcid
invariant-loop-pcid l = record {
  memo : l.memo ≡ l.fn.memo;
  grown : IsGrown l.seen l.walker.number l.walker.freshest l.event (found_at l.fn.found) (found_at l.found);
  all : (o : Outcome) → All (λ pcid. AreGlobal l.seen (under l.walker pcid) (with_outcome o l.event) ((found_at l.found) o)) (take l.pcid-index l.pcid-items);
}
