use Rattle.pg_tool.proofs.Guested.{by_one, by_many, stopped_by_one, stopped_by_many}
use Rattle.pg_tool.proofs.guests.run_by.Goals as goal

pub returns-then-asked-clause-ok : goal.returns-then-asked-clause-ok
returns-then-asked-clause-ok g c = by_one c.args.asked.now.single c.args.script.now c.run_single.result c.if-asked.true c.run_single.ensures.ok

pub returns-then-asked-clause-err : goal.returns-then-asked-clause-err
returns-then-asked-clause-err g c = stopped_by_one c.args.asked.now.single c.run_single.result c.run_single.ensures.err

pub returns-else-asked-clause-ok : goal.returns-else-asked-clause-ok
returns-else-asked-clause-ok g c = by_many c.args.asked.now.single c.args.script.now c.run_by_threads.result c.if-asked.false c.run_by_threads.ensures.ok

pub returns-else-asked-clause-err : goal.returns-else-asked-clause-err
returns-else-asked-clause-err g c =
    stopped_by_many c.args.asked.now.single c.run_by_threads.result c.if-asked.false c.run_by_threads.ensures.err
