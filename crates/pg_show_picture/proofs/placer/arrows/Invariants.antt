use Rattle.std.proofs.Common.{◌≡◌, ◌++◌, drop}
use Rattle.pg_show_picture.specs.Layout.{arrows_from, arrows}
use Rattle.pg_show_picture.proofs.placer.arrows.Given as goal

abbrev pub invariant-loop-i : goal.invariant-loop-i
invariant-loop-i l =
    l.found.items ++ arrows_from l.finding l.numbers l.walk l.i (drop l.i l.walk) ≡ arrows l.finding l.numbers l.walk
