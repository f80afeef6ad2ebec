use Rattle.std.proofs.Common.{◌≡◌, ℕ, List, length, Ok, subst, arith}
use Rattle.pg_event.specs.Heads.{Head}
use Rattle.pg_span_run.specs.declared.log.LogHeader.{LogHeader}
use Rattle.pg_span_run.specs.LogReading.{events_at}
use Rattle.pg_span_run.proofs.ReadLogs.{log_is}
use Rattle.pg_span_run.proofs.log_reader.read_log.Goals as goal

pub new-requires : goal.new-requires
new-requires c =
    let head : LogHeader = c.in-Ok.front.0 in
    let rest : List ℕ = c.in-Ok.front.1.now in
    log_is c.args.bytes.now head rest c.in_ok-events.events.items c.in_ok-events.rest.now (λ i. omega (arith, c.type_inv.bytes i)) c.in-Ok.ensures.value
    (subst (λ (h : Head). events_at (length rest) h head.own 0 0 rest ≡ Ok (c.in_ok-events.events.items, c.in_ok-events.rest.now)) c.in_ok-run.ensures c.in_ok-events.ensures)
