use Rattle.pg_chain.proofs.reader.Reader.structure_survives.Goals as goal

pub returns-clause-run : goal.returns-clause-run
returns-clause-run c = λ head events h. c.survives_in-survives.ensures.run head events h
