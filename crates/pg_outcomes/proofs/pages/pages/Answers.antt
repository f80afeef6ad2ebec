use Rattle.pg_outcomes.proofs.pages.pages.Goals as goal

pub returns-clause-pages : goal.returns-clause-pages
returns-clause-pages c = λ w word page level low h. c.ascending.ensures.all page (c.in_ok-pages_before.ensures w word page level low h)
