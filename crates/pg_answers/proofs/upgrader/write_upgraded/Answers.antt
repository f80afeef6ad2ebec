use Rattle.pg_answers.proofs.upgrader.write_upgraded.Goals as goal

pub returns-clause-written : goal.returns-clause-written
returns-clause-written g c = rw c.in_ok-new.ensures at c.write_told.ensures.written

pub returns-clause-report : goal.returns-clause-report
returns-clause-report g c = rw c.in_ok-new.ensures at c.write_told.ensures.report
