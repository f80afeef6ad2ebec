use Rattle.std.proofs.Common.{ℕ, ◌-◌, ◌^◌, ◌≤◌, List, length, subst, arith}
use Rattle.pg_event.specs.declared.event.Event.{Event}
use Rattle.pg_event.specs.Spelling.{Recorded}
use Rattle.pg_check.specs.Kept.{AreWellFormed}
use Rattle.pg_certify.specs.Certified.{IsCertified, IsDenied, Certifies}
use Rattle.pg_span_run.specs.Orders.{Spanned, ordered}
use Rattle.pg_span_verdict.proofs.Fronts.{numbers_of_order}
use Rattle.pg_span_verdict.proofs.Meaning.{begins, length-ordered, ordered-well}
use Rattle.pg_span_verdict.proofs.in_order.moments_in_order.Goals as goal

pub history_of-requires : goal.history_of-requires
history_of-requires c = numbers_of_order c.args.run.now c.args.order.now c.requires.order_of

pub returns : goal.returns
returns c =
    let history : Recorded = c.in_ok-history.history in
    subst (λ (r : Recorded). IsCertified r.head r.events c.in-Yes.found.items) c.in_ok-history.ensures.events (subst (Certifies history.head history.events) c.in-Yes.is c.in_ok-found.ensures)

pub unreachable-requires : goal.unreachable-requires
unreachable-requires c =
    let s : Spanned = c.args.run.now in
    let events : List Event = ordered s.events c.args.order.now in
    let history : Recorded = c.in_ok-history.history in
    let n : ℕ = c.in-No.field-0 in
    let denied : IsDenied s.head events n = subst (λ (r : Recorded). IsDenied r.head r.events n) c.in_ok-history.ensures.events (subst (Certifies history.head history.events) c.in-No.is c.in_ok-found.ensures) in
    let well : AreWellFormed s.head events = ordered-well s.head s.events c.args.order.now c.in_ok-history.ensures.spanned.well in
    let few : length events ≤ 2 ^ 32 - 1 = omega (arith, length-ordered s.events c.args.order.now, c.requires.order_of.count, c.in_ok-history.ensures.spanned.count) in
    let can = c.requires.certified in
    (c.denied_events_have_no_run.ensures s.head events n well few denied).0 (begins s.head events n (c.certified_events_run.ensures s.head events can.0 well can.1))
