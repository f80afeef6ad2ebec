use Rattle.std.proofs.Common.{refl, string_bytes}
use Rattle.pg_show_picture.specs.Svg.{arrows_text}
use Rattle.pg_explain.proofs.Loops.{next_written}
use Rattle.pg_show_picture.proofs.painter.push_all_arrows.Goals as goal

pub loop-arrow-preserved : goal.loop-arrow-preserved
loop-arrow-preserved c =
    let rest = arrows_text in
    next_written rest rest _ c.args.arrows.now c.loop-arrow.arrow-index _ (string_bytes c.loop-arrow.text) (string_bytes c.push_arrow.new.text) _ c.loop-arrow-test.true refl c.in_ok-push_arrow.ensures c.loop-arrow.invariant
