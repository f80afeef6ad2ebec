use Rattle.std.proofs.Common.{◌<◌, ◌^◌, length, arith}
use Rattle.pg_certify.specs.Certified.{IsDenied}
use Rattle.pg_answers.proofs.certificates.certificate_of.Goals as goal

pub returns-in_ok-denial_in-in-Some : goal.returns-in_ok-denial_in-in-Some
returns-in_ok-denial_in-in-Some c =
    let head = c.args.history.now.head in
    let events = c.args.history.now.events in
    let n = c.in-Some.number in
    let denied : IsDenied head events n = rw c.in-Some.is at c.requires.denied in
    let count : length events < 2 ^ 32 = c.events-events.ensures.count in
    let runs = c.denied_events_have_no_run.ensures head events n c.events-events.ensures.well (omega (arith, count)) denied in
    (n, record { denied = denied; none = runs.0; before = runs.1 }, c.in_ok-denial_in-in-Some.ensures)
