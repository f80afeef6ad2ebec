use Rattle.pg_chain.proofs.reader.Reader.first_drop_of_translation.Goals as goal

pub returns-clause-run : goal.returns-clause-run
returns-clause-run c = λ head events h. c.first_drop_from-first.ensures.run head events h
