use Rattle.std.proofs.Common.{◌≡◌, ◌<◌, ℕ, List, length, arith, sym, subst, true}
use Rattle.std.specs.Prelude.{IsTrue, ◌↔◌}
use Rattle.std.specs.List.{AllByRecursion}
use Rattle.std.proofs.lemmas.Result.{IfOk-weaker}
use Rattle.pg_event.specs.Form.{processor_of}
use Rattle.pg_span_run.specs.Orders.{Spanned, IsOrder}
use Rattle.pg_span_run.specs.Spanned.{IsSpanned}
use Rattle.pg_span_run.specs.Places.{ArePlaces, KeepsSpans, KeepsPrograms}
use Rattle.pg_span_run.proofs.Orders.{AllPlaced, processors_within, order_by_places, all_placed, spans_by_order, programs_by_order}
use Rattle.pg_span_run.proofs.order.is_order.Goals as goal

pub returns-then-not-are_all_placed : goal.returns-then-not-are_all_placed
returns-then-not-are_all_placed c = (
  λ no. absurd (cc),
  λ is.
      let placed : AllPlaced c.in_ok-places.places.items = all_placed c.args.run.now c.args.order.now c.in_ok-places.places.items c.in_ok-places.ensures is in
      let yes : c.are_all_placed.result ≡ true = c.are_all_placed.ensures.1 (subst AllPlaced (sym c.deref.ensures.value) placed) in
      absurd (cc),
)

pub returns-then-not-branch : goal.returns-then-not-branch
returns-then-not-branch c =
    let places : List ℕ = c.in_ok-places.places.items in (
      λ no. absurd (cc),
      λ is.
          let kept : KeepsSpans c.args.run.now.backs places = spans_by_order c.args.run.now c.args.order.now places c.backs.ensures.spanned.backs c.in_ok-places.ensures is in
          let here : KeepsSpans c.backs.result.now c.deref-2.result.now = subst (λ xs. KeepsSpans xs c.deref-2.result.now) (sym c.backs.ensures.backs) (subst (KeepsSpans c.args.run.now.backs) (sym c.deref-2.ensures.value) kept) in
          let yes : c.in_ok-keeps_spans.field-0 ≡ true = c.in_ok-keeps_spans.ensures.1 here in
          absurd (cc),
    )

pub keeps_programs-requires-clause-known : goal.keeps_programs-requires-clause-known
keeps_programs-requires-clause-known c =
    subst (AllByRecursion (λ e. processor_of e < c.processors.result)) (sym c.events.ensures.events)
    (processors_within c.args.run.now.head c.args.run.now.events c.processors.result c.processors.ensures c.backs.ensures.spanned.well)

pub returns : goal.returns
returns c =
    let places : List ℕ = c.in_ok-places.places.items in
    let run : Spanned = c.args.run.now in
    let order : List ℕ = c.args.order.now in
    let are : ArePlaces order places = c.in_ok-places.ensures in
    let spanned : IsSpanned run = c.backs.ensures.spanned in
    let count : length order ≡ length run.events = omega arith in
    let placed : AllPlaced places = subst AllPlaced c.deref.ensures.value (c.are_all_placed.ensures.0 (c.if-not-are_all_placed.false)) in
    let spans : KeepsSpans run.backs places =
    subst (λ xs. KeepsSpans xs places) c.backs.ensures.backs (subst (KeepsSpans c.backs.result.now) c.deref-2.ensures.value (c.in_ok-keeps_spans.ensures.0 c.if-not-branch.false)) in
    IfOk-weaker c.keeps_programs.result (λ b. IsTrue b ↔ KeepsPrograms c.events.result.now c.deref-3.result.now) (λ b. IsTrue b ↔ IsOrder run order)
    (
    λ b h. (
      λ yes. order_by_places run order places count spanned.backs are placed spans (subst (λ xs. KeepsPrograms xs places) c.events.ensures.events (subst (KeepsPrograms c.events.result.now) c.deref-3.ensures.value (h.0 yes))),
      λ is. h.1 (subst (λ xs. KeepsPrograms xs c.deref-3.result.now) (sym c.events.ensures.events) (subst (KeepsPrograms run.events) (sym c.deref-3.ensures.value) (programs_by_order run order places are is))),
    )
    )
    c.keeps_programs.ensures
