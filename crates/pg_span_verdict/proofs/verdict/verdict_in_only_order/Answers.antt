use Rattle.std.proofs.Common.{◌<◌, ◌≤◌, ℕ, List, length, subst, arith}
use Rattle.pg_certify.specs.Certified.{IsDenied}
use Rattle.pg_span_run.specs.OrderLaws.{ends}
use Rattle.pg_span_run.specs.Orders.{Spanned, ordered}
use Rattle.pg_span_refute.specs.Orders.{NeverComes}
use Rattle.pg_span_verdict.specs.declared.in_order.InOrder.TheVariants.{Denied}
use Rattle.pg_span_verdict.specs.Runs.{IsToldOf}
use Rattle.pg_span_verdict.proofs.Meaning.{denied_never_comes, never_comes_none_runs, none_are_deduced, none_of_earlier, ordered_within}
use Rattle.pg_span_verdict.proofs.verdict.verdict_in_only_order.Goals as goal

pub returns-in-Denied : goal.returns-in-Denied
returns-in-Denied c =
    let s : Spanned = c.args.run.now in
    let place : ℕ = c.in-Denied.place in
    let told : IsToldOf s c.deref.result.now (Denied place) = subst (IsToldOf s c.deref.result.now) c.in-Denied.is c.in_ok-certify_in_order.ensures.told in
    let denied : IsDenied s.head (ordered s.events (ends s)) place =
    subst (λ (order : List ℕ). IsDenied s.head (ordered s.events order) place) (c.no_other_order.ensures s c.deref.result.now c.requires told.0) told.1 in
    let same : length (ordered s.events (ends s)) ≤ length s.events = ordered_within s in
    let within : place < length s.events = omega (arith, denied.within, same) in
    let never : NeverComes s place = denied_never_comes c.denied_events_have_no_run.ensures c.no_other_order.ensures s place c.events-events.ensures.spanned c.requires denied in
    record {
      within = within;
      never = never;
      deduced = none_are_deduced s _ c.new.ensures.items;
      earlier = none_of_earlier s _ place c.new.ensures.items;
      only = λ none. denied;
      run = never_comes_none_runs s place within never;
    }
