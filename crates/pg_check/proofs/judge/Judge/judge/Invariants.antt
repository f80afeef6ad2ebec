use Rattle.std.proofs.Common.{◌≡◌, List, ◌++◌, length, take}
use Rattle.pg_event.specs.declared.event.Event.{Event}
use Rattle.pg_event.specs.Heads.{Head}
use Rattle.pg_event.specs.Witness.{first_bad_from}
use Rattle.pg_check.specs.Judging.{HasNoted}
use Rattle.pg_check.proofs.judge.Judge.judge.Given as goal

abbrev pub invariant-loop-i : goal.invariant-loop-i
invariant-loop-i l =
    ((head : Head) (before : List Event) → HasNoted l.fn.self head before → HasNoted l.self head (before ++ take l.i l.events))
    × ((head : Head) (before : List Event) → HasNoted l.fn.self head before →
    l.found ≡ first_bad_from head (before ++ take l.i l.events) (length before) (take l.i l.events))
