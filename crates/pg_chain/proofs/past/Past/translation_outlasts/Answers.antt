use Rattle.pg_chain.proofs.past.Past.translation_outlasts.Goals as goal

pub returns : goal.returns
returns c = record { run = λ yes to head events h. c.translation_outlasts.ensures.run yes head events h.drops to }
