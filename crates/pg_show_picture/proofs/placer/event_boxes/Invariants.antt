use Rattle.std.proofs.Common.{◌≡◌, map, take}
use Rattle.pg_show_picture.specs.Layout.{event_box}
use Rattle.pg_show_picture.proofs.placer.event_boxes.Given as goal

abbrev pub invariant-loop-number : goal.invariant-loop-number
invariant-loop-number l =
    l.found.items ≡ map (event_box l.events l.explanation l.walk l.numbers l.lanes) (take l.number-index l.numbers)
