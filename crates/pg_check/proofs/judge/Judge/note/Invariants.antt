use Rattle.std.proofs.Common.{List, ◌++◌, take}
use Rattle.pg_event.specs.declared.event.Event.{Event}
use Rattle.pg_event.specs.Heads.{Head}
use Rattle.pg_check.specs.Judging.{HasNoted}
use Rattle.pg_check.proofs.judge.Judge.note.Given as goal

abbrev pub invariant-loop-event : goal.invariant-loop-event
invariant-loop-event l =
    (head : Head) (before : List Event) → HasNoted l.fn.self head before → HasNoted l.self head (before ++ take l.event-index l.events)
