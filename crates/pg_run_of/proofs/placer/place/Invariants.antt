use Rattle.std.proofs.Common.{◌≡◌, ◌++◌, drop}
use Rattle.pg_run_of.specs.Plan.{steps_from}
use Rattle.pg_run_of.specs.Places.{IsPlace}
use Rattle.pg_run_of.proofs.placer.place.Given as goal

abbrev pub invariant-loop-moment : goal.invariant-loop-moment
invariant-loop-moment l = record {
  steps : l.steps.items ++ steps_from l.fills l.moment (drop l.moment l.events) ≡ steps_from l.fills 0 l.events;
  place : IsPlace l.fills l.moment l.next;
}
