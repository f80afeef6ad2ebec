use Rattle.pg_span_answers.proofs.answers.give_named_if.Goals as goal

pub returns-in-Never : goal.returns-in-Never
returns-in-Never g c = rw c.in-Never.is (rw c.in-Never.is at c.give_report_aside.ensures)

pub returns-in-NoneOfAll : goal.returns-in-NoneOfAll
returns-in-NoneOfAll g c = rw c.in-NoneOfAll.is (rw c.in-NoneOfAll.is at c.give_report_aside-in-NoneOfAll.ensures)

pub returns-in-Undecided : goal.returns-in-Undecided
returns-in-Undecided g c = rw c.in-Undecided.is (rw c.in-Undecided.is at c.give_report_aside-in-Undecided.ensures)
