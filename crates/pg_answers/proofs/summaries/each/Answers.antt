use Rattle.pg_answers.proofs.summaries.each.Goals as goal

pub returns : goal.returns
returns c = c.each_by.ensures
