use Rattle.pg_chain.proofs.past.Past.control_at_counted.Goals as goal

pub returns-clause-run : goal.returns-clause-run
returns-clause-run c = λ head events h. c.control_at_counted.ensures.run head events h.controls
