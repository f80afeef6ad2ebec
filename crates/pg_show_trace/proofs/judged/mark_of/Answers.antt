use Rattle.pg_show_trace.proofs.judged.mark_of.Goals as goal

pub returns : goal.returns
returns c = (c.in-Some.explanation, rw c.in-Some.is at c.in_ok-explanation.ensures, c.in_ok-mark-in-Some.ensures)
