use Rattle.std.proofs.Common.{◌≡◌, ℕ, List, ap, sym, subst, ◌∙◌, arith}
use Rattle.std.specs.List.{range_with_len}
use Rattle.pg_certify.specs.Certified.{HasRunButMoments}
use Rattle.pg_span_run.specs.OrderLaws.{ends}
use Rattle.pg_span_run.specs.Orders.{Spanned, ordered}
use Rattle.pg_span_verdict.specs.declared.in_order.InOrder.TheVariants.{Denied}
use Rattle.pg_span_verdict.specs.Runs.{IsToldOf}
use Rattle.pg_span_verdict.proofs.Meaning.{denied_has_no_run}
use Rattle.pg_span_verdict.proofs.verdict.yes_in_ends.Goals as goal

pub returns-in-Denied-clause-none : goal.returns-in-Denied-clause-none
returns-in-Denied-clause-none c =
    let s : Spanned = c.args.run.now in
    let order : List ℕ = c.deref.result.now in
    let place : ℕ = c.in-Denied.field-0 in
    let spanned = c.events-events.ensures.spanned in
    let told : IsToldOf s order (Denied place) = subst (IsToldOf s order) c.in-Denied.is c.in_ok-certify_in_order.ensures.told in
    let is : order ≡ ends s = c.deref.ensures.value ∙ (c.in_ok-order.ensures ∙ ap (range_with_len 0) c.len.ensures.length) in
    λ run. denied_has_no_run c.denied_events_have_no_run.ensures s order place spanned (omega (arith, told.0.count)) told.1
    (subst (λ (o : List ℕ). HasRunButMoments s.head (ordered s.events o)) (sym is) run)
