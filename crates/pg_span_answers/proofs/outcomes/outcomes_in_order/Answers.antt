use Rattle.std.proofs.Common.{ℕ, List, length, Some, ap, sym, subst, ◌∙◌}
use Rattle.std.proofs.lemmas.Result.{IfOk-weaker}
use Rattle.pg_event.specs.declared.event.Event.{Event}
use Rattle.pg_event.specs.Spelling.{Recorded}
use Rattle.pg_answers.specs.Outcomes.{IsAskedEvent}
use Rattle.pg_span_run.specs.Orders.{Spanned}
use Rattle.pg_span_run.proofs.Orders.{order_within}
use Rattle.pg_span_answers.specs.Outcomes.{IsOfEvent}
use Rattle.pg_span_answers.proofs.Placed.{length_in_order}
use Rattle.pg_span_answers.proofs.outcomes.outcomes_in_order.Goals as goal

pub outcomes_of_event-requires : goal.outcomes_of_event-requires
outcomes_of_event-requires c =
    let s : Spanned = c.args.run.now in
    let order : List ℕ = c.args.order.now in
    sym (ap (λ (r : Recorded). length r.events) c.in_ok-history-in-Some.ensures ∙ length_in_order s.events order (order_within s order c.requires.order_of))

pub returns-in_ok-history-in-Some : goal.returns-in_ok-history-in-Some
returns-in_ok-history-in-Some c =
    let s : Spanned = c.args.run.now in
    let order : List ℕ = c.args.order.now in
    let number : ℕ = c.in-Some.number in
    let asked : IsAskedEvent s.events c.args.asked (Some number) = subst (λ (es : List Event). IsAskedEvent es c.args.asked (Some number)) c.events.ensures.events (rw c.in-Some.is at c.asked_event.ensures) in
    IfOk-weaker c.outcomes_of_event.result _ _
    (λ x h. (Some number, asked, subst (λ (r : Recorded). IsOfEvent r order c.args.most number x) c.in_ok-history-in-Some.ensures h))
    c.outcomes_of_event.ensures
