use Rattle.std.proofs.Common.{sym, subst, Option}
use Rattle.pg_check.specs.declared.memo.Slot.{Slot}
use Rattle.pg_check.specs.Remembered.{HasWalk}
use Rattle.pg_check.proofs.Memos.{slot_at}
use Rattle.pg_check.proofs.places.put_all.Goals as goal

pub loop-kept-preserved : goal.loop-kept-preserved
loop-kept-preserved c = λ past limit have was.
    c.put.ensures past limit
    (subst (λ (s : Option Slot). HasWalk past limit s) (sym c.kept-item.is)
    (slot_at past limit c.args.from.now c.loop-kept.kept-index _ have c.loop-kept-test.true))
    (c.loop-kept.invariant past limit have was)
