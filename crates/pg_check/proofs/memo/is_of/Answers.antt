use Rattle.std.proofs.Common.{refl, sym, ◌∙◌}
use Rattle.pg_check.proofs.Memos.{same_moments}
use Rattle.pg_check.proofs.memo.is_of.Goals as goal

pub returns-then-is_to : goal.returns-then-is_to
returns-then-is_to c = λ yes.
    let named = c.if-is_to.ensures refl in
    (named.0, named.1, same_moments c.args.slot.now.moments c.args.moments.now _ _ (sym c.eq.ensures ∙ yes))
