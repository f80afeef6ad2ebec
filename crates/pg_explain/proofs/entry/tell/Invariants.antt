use Rattle.std.proofs.Common.{◌≡◌, map, take}
use Rattle.std.specs.List.{AllByRecursion}
use Rattle.pg_chain.specs.Walked.{reading_of}
use Rattle.pg_explain.specs.Walk.{IsTold, reading_at}
use Rattle.pg_explain.proofs.entry.tell.Given as goal

abbrev pub invariant-loop-step : goal.invariant-loop-step
invariant-loop-step l = record {
  read : map reading_at l.walk.items ≡ map reading_of (take l.step-index l.steps);
  told : AllByRecursion (IsTold l.seen.head l.seen.events l.p) l.walk.items;
}
