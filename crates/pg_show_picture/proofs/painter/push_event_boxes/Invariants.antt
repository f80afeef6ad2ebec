use Rattle.std.proofs.Common.{◌≡◌, ◌++◌, drop, string_bytes}
use Rattle.pg_show_picture.specs.Svg.{event_boxes_text}
use Rattle.pg_show_picture.proofs.painter.push_event_boxes.Given as goal

abbrev pub invariant-loop-drawn : goal.invariant-loop-drawn
invariant-loop-drawn l =
    string_bytes l.text ++ event_boxes_text l.events (drop l.drawn-index l.boxes) ≡ string_bytes l.fn.text ++ event_boxes_text l.events l.boxes
