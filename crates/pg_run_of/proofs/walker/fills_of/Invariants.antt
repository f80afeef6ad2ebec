use Rattle.std.proofs.Common.{◌≡◌, ◌≤◌, ◌*◌, length, take}
use Rattle.std.specs.List.{flat_map}
use Rattle.pg_run_of.specs.Plan.{event_fills}
use Rattle.pg_run_of.proofs.walker.fills_of.Given as goal

abbrev pub invariant-loop-event : goal.invariant-loop-event
invariant-loop-event l = record {
  fills : l.fills.items ≡ flat_map (event_fills l.history.head l.history.events) (take l.event-index l.history.events);
  few : length l.fills.items ≤ 4 * l.event-index;
}
