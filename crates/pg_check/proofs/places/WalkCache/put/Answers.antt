use Rattle.std.proofs.Common.{sym, subst, Option}
use Rattle.pg_check.specs.declared.memo.Slot.{Slot}
use Rattle.pg_check.specs.Remembered.{HasWalk}
use Rattle.pg_check.proofs.Memos.{slots_kept}
use Rattle.pg_check.proofs.places.WalkCache.put.Goals as goal

pub returns-then-place-len-clause-walks : goal.returns-then-place-len-clause-walks
returns-then-place-len-clause-walks c = λ past limit has have.
    slots_kept past limit c.args.self.now.slots.items c.args.place c.of.result have (subst (λ (s : Option Slot). HasWalk past limit s) (sym c.of.ensures) has)
