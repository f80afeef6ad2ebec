use Rattle.std.proofs.Common.{sym, subst}
use Rattle.pg_span_run.specs.Logs.{AreLogSettings}
use Rattle.pg_span_run.proofs.LogRuns.{of_one_run, head_in_range}
use Rattle.pg_span_run.proofs.united.united.Goals as goal

pub returns-in-Ok-clause-run : goal.returns-in-Ok-clause-run
returns-in-Ok-clause-run c =
    let first : AreLogSettings c.header.result.now = subst AreLogSettings (sym c.header.ensures.header) c.header.ensures.log.settings in
    of_one_run c.header.result.now c.args.logs.now c.in-Ok.processors.items first.rules c.in_default.ensures c.in_default-twice.ensures c.in-Ok.ensures

pub returns-in-Ok-clause-rules : goal.returns-in-Ok-clause-rules
returns-in-Ok-clause-rules c =
    let first : AreLogSettings c.header.result.now = subst AreLogSettings (sym c.header.ensures.header) c.header.ensures.log.settings in
    first.rules

pub returns-in-Ok-clause-head : goal.returns-in-Ok-clause-head
returns-in-Ok-clause-head c = head_in_range c.header.result.now c.args.logs.now c.in-Ok.processors.items (subst AreLogSettings (sym c.header.ensures.header) c.header.ensures.log.settings) c.in_default.ensures c.in-Ok.ensures
