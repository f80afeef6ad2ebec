use Rattle.pg_chain.proofs.past.Past.structure_outlasts.Goals as goal

pub returns : goal.returns
returns c = λ yes to head events h. c.structure_outlasts.ensures.run yes head events h.drops to
