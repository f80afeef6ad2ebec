use Rattle.std.proofs.Common.{ℕ, List, subst}
use Rattle.pg_span_run.specs.Orders.{Spanned}
use Rattle.pg_span_verdict.specs.declared.in_order.InOrder.TheVariants.{Certified, Denied, NoOrder}
use Rattle.pg_span_verdict.specs.Runs.{IsToldOf, HasRunIfCertified}
use Rattle.pg_span_verdict.proofs.Fronts.{none_begins_denied, none_begins_whole, numbers_of_order}
use Rattle.pg_span_verdict.proofs.trying.is_ordered_run.Goals as goal

pub returns-in-Certified-clause-yes : goal.returns-in-Certified-clause-yes
returns-in-Certified-clause-yes c =
    let s : Spanned = c.args.run.now in
    let numbers : List ℕ = c.args.numbers.now in
    let told : IsToldOf s numbers Certified = subst (IsToldOf s numbers) c.in-Certified.is c.in_ok-certify_in_order.ensures.told in
    let run : HasRunIfCertified s numbers Certified = subst (HasRunIfCertified s numbers) c.in-Certified.is c.in_ok-certify_in_order.ensures.run in
    λ yes. record { order_of = told.0; certified = told.1; run = run }

pub returns-in-Denied-clause-no : goal.returns-in-Denied-clause-no
returns-in-Denied-clause-no c =
    let s : Spanned = c.args.run.now in
    let numbers : List ℕ = c.args.numbers.now in
    let place : ℕ = c.in-Denied.field-0 in
    let told : IsToldOf s numbers (Denied place) = subst (IsToldOf s numbers) c.in-Denied.is c.in_ok-certify_in_order.ensures.told in
    λ no. none_begins_denied c.denied_events_have_no_run.ensures s numbers place c.events-events.ensures.spanned (numbers_of_order s numbers told.0) told.1

pub returns-in-NoOrder-clause-no : goal.returns-in-NoOrder-clause-no
returns-in-NoOrder-clause-no c =
    let s : Spanned = c.args.run.now in
    let numbers : List ℕ = c.args.numbers.now in
    let told : IsToldOf s numbers NoOrder = subst (IsToldOf s numbers) c.in-NoOrder.is c.in_ok-certify_in_order.ensures.told in
    λ no. none_begins_whole s numbers c.requires told
