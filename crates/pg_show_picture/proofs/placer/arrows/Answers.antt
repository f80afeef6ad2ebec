use Rattle.std.proofs.Common.{◌+◌, refl}
use Rattle.pg_explain.proofs.Loops.{next_written}
use Rattle.pg_show_picture.specs.Layout.{arrows_from}
use Rattle.pg_show_picture.proofs.placer.arrows.Goals as goal

pub loop-i-preserved : goal.loop-i-preserved
loop-i-preserved c =
    let arrows_at = arrows_from c.args.finding c.args.numbers.now c.args.walk.now in
    next_written (arrows_at c.loop-i.i) (arrows_at (c.loop-i.i + 1)) _ c.args.walk.now c.loop-i.i _ c.loop-i.found.items c.push_arrows.new.found.items _ c.loop-i-test.true refl c.in_ok-push_arrows.ensures c.loop-i.invariant
