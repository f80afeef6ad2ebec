use Rattle.std.proofs.Common.{◌∙◌}
use Rattle.pg_event.specs.declared.meaning.Request.TheVariants as requests
use Rattle.pg_event.proofs.Requests.{failing_event-by}
use Rattle.pg_check.proofs.by_past.failing.Goals as goal

pub returns-in-Nothing-clause-failing : goal.returns-in-Nothing-clause-failing
returns-in-Nothing-clause-failing c = λ head events past.
    failing_event-by head events c.args.number c.args.event.now c.processor_of-p.result c.request.result requests.Nothing c.processor_of-p.ensures c.request.ensures c.in-Nothing.is

pub returns-in-Access-clause-failing : goal.returns-in-Access-clause-failing
returns-in-Access-clause-failing c = λ head events past.
    let a = c.in-Access in
    c.failing_access.ensures.failing head events past
    ∙ failing_event-by head events c.args.number c.args.event.now c.processor_of-p.result c.request.result (requests.Access a.kind a.la a.outcome a.moments) c.processor_of-p.ensures c.request.ensures a.is

pub returns-in-Update-clause-failing : goal.returns-in-Update-clause-failing
returns-in-Update-clause-failing c = λ head events past.
    let u = c.in-Update in
    c.failing_assist.ensures.failing head events past
    ∙ failing_event-by head events c.args.number c.args.event.now c.processor_of-p.result c.request.result (requests.Update u.kind u.la u.word u.dirty u.moments) c.processor_of-p.ensures c.request.ensures u.is
