use Rattle.std.proofs.Common.{◌≡◌, ◌++◌, drop, string_bytes}
use Rattle.pg_show_picture.specs.Svg.{lanes_text}
use Rattle.pg_show_picture.proofs.painter.push_lanes.Given as goal

abbrev pub invariant-loop-lane : goal.invariant-loop-lane
invariant-loop-lane l =
    string_bytes l.text ++ lanes_text l.foot (drop l.lane-index l.lanes) ≡ string_bytes l.fn.text ++ lanes_text l.foot l.lanes
