use Rattle.std.proofs.lemmas.Result.{IfOk-weaker, IfErr-weaker}
use Rattle.pg_runner.proofs.WholeRuns.{single_is_guest, stops_as_single}
use Rattle.pg_runner.proofs.ending.anew.Goals as goal

pub returns-clause-ok : goal.returns-clause-ok
returns-clause-ok c = IfOk-weaker _ _ _ (single_is_guest c.args.script.now) c.run_single.ensures.ok

pub returns-clause-err : goal.returns-clause-err
returns-clause-err c = IfErr-weaker _ _ _ stops_as_single c.run_single.ensures.err
