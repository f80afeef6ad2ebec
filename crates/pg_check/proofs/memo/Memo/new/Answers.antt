use Rattle.pg_check.proofs.memo.Memo.new.Goals as goal

pub invariant_of-result : goal.invariant_of-result
invariant_of-result c = c.with_slots.ensures _ _
