use Rattle.std.proofs.Common.{ℕ, List, subst, Option}
use Rattle.std.specs.Prelude.{IfNone}
use Rattle.pg_certify.specs.Certified.{CanBeCertified}
use Rattle.pg_span_run.specs.Orders.{Spanned, ordered}
use Rattle.pg_span_verdict.proofs.Fronts.{numbers_of_order}
use Rattle.pg_span_verdict.proofs.in_order.certify_in_order.Goals as goal

pub first_denied_in-requires : goal.first_denied_in-requires
first_denied_in-requires c = numbers_of_order c.args.run.now c.args.order.now (c.in_ok-is_order.ensures.0 c.if-not-branch.false)

pub returns-in-None-clause-run : goal.returns-in-None-clause-run
returns-in-None-clause-run c =
    let s : Spanned = c.args.run.now in
    let order : List ℕ = c.args.order.now in
    let can : CanBeCertified s.head (ordered s.events order) = subst (λ (o : Option ℕ). IfNone o (CanBeCertified s.head (ordered s.events order))) c.in-None.is c.in_ok-place.ensures.certified in
    c.ordered_events_run.ensures s order can.0 c.events-events.ensures.spanned.well (c.in_ok-is_order.ensures.0 c.if-not-branch.false) can.1
