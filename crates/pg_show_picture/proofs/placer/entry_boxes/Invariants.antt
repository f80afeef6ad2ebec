use Rattle.std.proofs.Common.{◌≡◌, ◌++◌, drop}
use Rattle.pg_show_picture.specs.Layout.{entry_boxes_from, entry_boxes}
use Rattle.pg_show_picture.proofs.placer.entry_boxes.Given as goal

abbrev pub invariant-loop-i : goal.invariant-loop-i
invariant-loop-i l =
    l.found.items ++ entry_boxes_from l.numbers l.walk l.i (drop l.i l.walk) ≡ entry_boxes l.numbers l.walk
