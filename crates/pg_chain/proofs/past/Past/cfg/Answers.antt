use Rattle.pg_chain.proofs.past.Past.cfg.Goals as goal

pub returns-clause-run : goal.returns-clause-run
returns-clause-run c = λ head events h. c.cfg.ensures.run head events h.controls
