use Rattle.pg_check.proofs.memo.Memo.count_walk.Goals as goal

pub invariant_of-self-then-count_walk : goal.invariant_of-self-then-count_walk
invariant_of-self-then-count_walk c = c.grow.ensures.walks c.self.inside.reader c.self.inside.limit (rw (c.count_walk.ensures.slots) c.self.invariant)
