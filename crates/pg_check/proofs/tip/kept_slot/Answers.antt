use Rattle.std.proofs.Common.{List, Option, sym, subst}
use Rattle.pg_check.specs.declared.memo.Slot.{Slot}
use Rattle.pg_check.specs.Remembered.{HaveWalks}
use Rattle.pg_check.proofs.tip.kept_slot.Goals as goal

pub returns-in-Some-clause-walk : goal.returns-in-Some-clause-walk
returns-in-Some-clause-walk c = λ past limit have.
    c.in-Some.ensures.walk past limit (subst (λ (xs : List (Option Slot)). HaveWalks past limit xs) (sym c.as_slice-slots.ensures.value) have)

pub returns-in-None-clause-walk : goal.returns-in-None-clause-walk
returns-in-None-clause-walk c = λ past limit have.
    c.slot_at-in-None.ensures.walk past limit (subst (λ (xs : List (Option Slot)). HaveWalks past limit xs) (sym c.as_slice-slots.ensures.value) have)
