use Rattle.std.proofs.Common.{◌≡◌, ◌++◌, drop, string_bytes}
use Rattle.pg_show_picture.specs.Svg.{entry_boxes_text}
use Rattle.pg_show_picture.proofs.painter.push_entry_boxes.Given as goal

abbrev pub invariant-loop-drawn : goal.invariant-loop-drawn
invariant-loop-drawn l =
    string_bytes l.text ++ entry_boxes_text (drop l.drawn-index l.boxes) ≡ string_bytes l.fn.text ++ entry_boxes_text l.boxes
