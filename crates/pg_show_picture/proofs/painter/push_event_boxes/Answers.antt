use Rattle.std.proofs.Common.{refl, string_bytes}
use Rattle.pg_show_picture.specs.Svg.{event_boxes_text}
use Rattle.pg_explain.proofs.Loops.{next_written}
use Rattle.pg_show_picture.proofs.painter.push_event_boxes.Goals as goal

pub loop-drawn-preserved : goal.loop-drawn-preserved
loop-drawn-preserved c =
    let rest = event_boxes_text c.args.events.now in
    next_written rest rest _ c.args.boxes.now c.loop-drawn.drawn-index _ (string_bytes c.loop-drawn.text) (string_bytes c.push_event_box.new.text) _ c.loop-drawn-test.true refl c.in_ok-push_event_box.ensures c.loop-drawn.invariant
