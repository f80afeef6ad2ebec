use Rattle.pg_chain.proofs.past.Past.value_at_counted.Goals as goal

pub returns-clause-run : goal.returns-clause-run
returns-clause-run c = λ head events h. c.at_counted.ensures.memory events h.versions
