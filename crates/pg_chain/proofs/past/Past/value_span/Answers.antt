use Rattle.pg_chain.proofs.past.Past.value_span.Goals as goal

pub returns-clause-run : goal.returns-clause-run
returns-clause-run c = λ head events h. c.span_at.ensures.memory events h.versions
