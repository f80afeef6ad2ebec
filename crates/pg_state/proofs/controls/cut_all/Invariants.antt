use Rattle.std.proofs.Common.{◌≡◌, ◌++◌, take, drop, map}
use Rattle.pg_timeline.specs.Timelines.{cut_at}
use Rattle.pg_state.proofs.controls.cut_all.Given as goal

abbrev pub invariant-loop-changes : goal.invariant-loop-changes
invariant-loop-changes l = l.changes-items ≡ map (cut_at l.moment) (take l.changes-index l.fn.by_processor.items) ++ drop l.changes-index l.fn.by_processor.items
