use Rattle.pg_chain.proofs.past.Past.first_drop_of_structure.Goals as goal

pub returns-clause-run : goal.returns-clause-run
returns-clause-run c = λ head events h. c.first_drop_of_structure.ensures.run head events h.drops
