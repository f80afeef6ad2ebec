use Rattle.std.proofs.Common.{◌≡◌, drop}
use Rattle.pg_show_picture.specs.Layout.{lane_x}
use Rattle.pg_show_picture.proofs.placer.lane_x.Given as goal

abbrev pub invariant-loop-lane : goal.invariant-loop-lane
invariant-loop-lane l =
    lane_x (drop l.lane-index l.lanes) l.processor ≡ lane_x l.lanes l.processor
