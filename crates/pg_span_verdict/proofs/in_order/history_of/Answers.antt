use Rattle.std.proofs.Common.{◌≡◌, ◌+◌, ◌<◌, ℕ, List, ◌∷◌, [], ◌++◌, length, take, get_or, arith, ap, sym, ◌∙◌, refl, subst, Some, None}
use Rattle.std.proofs.lemmas.List.{length-take}
use Rattle.std.proofs.lemmas.Option.{slice_get-get_or}
use Rattle.pg_event.specs.declared.event.Event.{Event}
use Rattle.pg_event.specs.Heads.{Head}
use Rattle.pg_event.specs.Form.{broken_rule}
use Rattle.pg_event.specs.Spelling.{Recorded}
use Rattle.pg_span_run.proofs.Places.{AllByRecursion-at}
use Rattle.pg_span_run.specs.Orders.{ordered}
use Rattle.pg_span_verdict.proofs.Meaning.{length-ordered}
use Rattle.pg_span_verdict.proofs.Ordered.{ordered_more}
use Rattle.pg_span_verdict.proofs.in_order.history_of.Goals as goal

pub bounds-events-number : goal.bounds-events-number
bounds-events-number c =
    let order : List ℕ = c.args.order.now in
    let k : ℕ = c.loop-number.number-index in
    let low : get_or order k 0 < length c.args.run.now.events = c.requires.within k (get_or order k 0) (slice_get-get_or order k 0 c.loop-number-test.true) in
    omega (arith, low, ap length c.events-events.ensures.events)

pub extend-requires-clause-well : goal.extend-requires-clause-well
extend-requires-clause-well c =
    let events : List Event = c.events-events.result.now in
    let k : ℕ = c.loop-number.number-index in
    let i : ℕ = get_or c.args.order.now k 0 in
    let low : i < length c.args.run.now.events = c.requires.within k i (slice_get-get_or c.args.order.now k 0 c.loop-number-test.true) in
    let e : Event = c.index-events-number.result in
    let is : e ≡ get_or c.args.run.now.events i e = c.index-events-number.is ∙ ap (λ xs. get_or xs i e) c.events-events.ensures.events in
    let well : broken_rule c.args.run.now.head e ≡ None = AllByRecursion-at (λ x. broken_rule c.args.run.now.head x ≡ None) c.args.run.now.events i e c.events-events.ensures.spanned.well (slice_get-get_or c.args.run.now.events i e low ∙ ap Some (sym is)) in
    (subst (λ (h : Head). broken_rule h e ≡ None) (sym c.loop-number.invariant.head) well, tt)

pub extend-requires-clause-count : goal.extend-requires-clause-count
extend-requires-clause-count c =
    let k : ℕ = c.loop-number.number-index in
    omega (arith, ap length c.loop-number.invariant.events, length-ordered c.args.run.now.events (take k c.args.order.now), length-take k c.args.order.now, c.loop-number-test.true, c.requires.count, c.events-events.ensures.spanned.count)

pub loop-number-preserved : goal.loop-number-preserved
loop-number-preserved c =
    let k : ℕ = c.loop-number.number-index in
    let i : ℕ = get_or c.args.order.now k 0 in
    let low : i < length c.args.run.now.events = c.requires.within k i (slice_get-get_or c.args.order.now k 0 c.loop-number-test.true) in
    let e : Event = c.index-events-number.result in
    let is : e ≡ get_or c.args.run.now.events i e = c.index-events-number.is ∙ ap (λ xs. get_or xs i e) c.events-events.ensures.events in
    let more : ordered c.args.run.now.events (take (k + 1) c.args.order.now) ≡ ordered c.args.run.now.events (take k c.args.order.now) ++ e ∷ [] = ordered_more c.args.run.now.events c.args.order.now k i e c.loop-number-test.true refl low is in
    record {
      head = ap (λ (r : Recorded). r.head) c.in_ok-extend.ensures.ok ∙ c.loop-number.invariant.head;
      events = ap (λ (r : Recorded). r.events) c.in_ok-extend.ensures.ok ∙ (ap (λ xs. xs ++ e ∷ []) c.loop-number.invariant.events ∙ sym more);
    }
