use Rattle.std.proofs.Common.{sym, subst, List, Option}
use Rattle.pg_check.specs.declared.memo.Slot.{Slot}
use Rattle.pg_check.specs.Remembered.{HaveWalks}
use Rattle.pg_check.proofs.places.WalkCache.grow.Goals as goal

pub returns-then-len-count-clause-walks : goal.returns-then-len-count-clause-walks
returns-then-len-count-clause-walks c = λ past limit have.
    c.put_all.ensures past limit (subst (λ (xs : List (Option Slot)). HaveWalks past limit xs) (sym c.as_slice.ensures.value) have) (c.empty_slots-more.ensures past limit)
