use Rattle.std.proofs.Common.{◌∙◌, sym, subst, Option}
use Rattle.pg_check.specs.declared.memo.Slot.{Slot}
use Rattle.pg_check.specs.Remembered.{HasWalk}
use Rattle.pg_check.proofs.Memos as memos
use Rattle.pg_check.proofs.memo.slot_at.Goals as goal

pub returns-then-is_of-clause-walk : goal.returns-then-is_of-clause-walk
returns-then-is_of-clause-walk c = λ past limit have.
    let found = c.in_ok-get.field-0.now in
    let at = c.in_ok-get.ensures.lookup in
    subst (λ (s : Option Slot). HasWalk past limit s) (sym (at.3.1 found) ∙ c.in_ok-slot.ensures)
    (memos.slot_at past limit c.args.slots.now c.args.place found have at.3.0)
