use Rattle.std.proofs.Common.{◌≡◌, ◌++◌, drop, string_bytes}
use Rattle.pg_span_text.specs.Picture.{lanes_text}
use Rattle.pg_span_text.proofs.picture.push_lanes.Given as goal

abbrev pub invariant-loop-lane : goal.invariant-loop-lane
invariant-loop-lane l =
    string_bytes l.text ++ lanes_text l.lanes l.rows (drop l.lane-index l.lanes)
    ≡ string_bytes l.fn.text ++ lanes_text l.lanes l.rows l.lanes
