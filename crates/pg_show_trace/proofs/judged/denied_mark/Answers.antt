use Rattle.pg_show_trace.proofs.judged.denied_mark.Goals as goal

pub returns-in_ok-denial_mark-in-Some : goal.returns-in_ok-denial_mark-in-Some
returns-in_ok-denial_mark-in-Some c =
    (c.in-Some.number, rw c.in-Some.is at c.requires.denied, c.in_ok-denial-in-Some.denial, c.in_ok-denial-in-Some.ensures, c.in_ok-denial_mark-in-Some.ensures)
