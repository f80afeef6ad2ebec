use Rattle.std.proofs.Common.{◌≡◌, ◌≤◌, ◌+◌, ◌*◌, ◌++◌, drop}
use Rattle.pg_show_picture.specs.Layout.{lanes_from, lanes}
use Rattle.pg_show_picture.proofs.placer.lanes.Given as goal

abbrev pub invariant-loop-i : goal.invariant-loop-i
invariant-loop-i l = record {
  lanes : l.found.items ++ lanes_from l.history.events l.numbers l.i l.x (drop l.i l.history.head.processors)
      ≡ lanes l.history.head l.history.events l.numbers;
  within : l.x ≤ 24 + 18 * l.i;
}
