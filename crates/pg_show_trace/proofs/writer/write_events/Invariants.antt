use Rattle.std.proofs.Common.{◌≤◌, ◌-◌, Ok, length, take}
use Rattle.pg_report.specs.Changes.{filled}
use Rattle.pg_show_trace.specs.Given.{WritesPart}
use Rattle.pg_show_trace.specs.Texts.{scene_items}
use Rattle.pg_show_trace.proofs.writer.write_events.Given as goal

abbrev pub invariant-loop-from : goal.invariant-loop-from
invariant-loop-from g l =
    (l.from ≤ length l.events)
    × WritesPart {A = Unit {0}} (scene_items l.scene l.first (take l.from l.events)) (filled g.O.Sink l.fn.output l.output) (Ok tt)

abbrev pub decreases-loop-from : goal.decreases-loop-from
decreases-loop-from g l = length l.events - l.from
