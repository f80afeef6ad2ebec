use Rattle.std.proofs.Common.{length, ap, arith}
use Rattle.std.proofs.lemmas.List.Folds.{length-flat_map-take}
use Rattle.pg_span_run.specs.Logs.{Logged}
use Rattle.pg_span_run.proofs.gathering.gathered.Goals as goal

pub returns-then-events-len-clause-events : goal.returns-then-events-len-clause-events
returns-then-events-len-clause-events c =
    let all = length-flat_map-take (λ (log : Logged). log.events) c.args.logs.now c.loop-log.log-index c.log-item.result c.loop-log-test.true in
    let own = ap (λ (log : Logged). length log.events) c.log-item.is in
    omega (arith, all, own, ap length c.events-events.ensures.events, ap length c.loop-log.invariant.events, c.if-events-len.true, c.len.ensures)
