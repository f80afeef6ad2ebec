use Rattle.std.proofs.Common.{◌≡◌, ◌+◌, ◌<◌, ℕ, List, ◌∷◌, [], ◌++◌, length, take, get_or, arith, ap, sym, ◌∙◌, refl}
use Rattle.std.proofs.lemmas.List.{append-nil, append_assoc}
use Rattle.std.proofs.lemmas.Option.{slice_get-get_or}
use Rattle.pg_event.specs.declared.event.Event.{Event}
use Rattle.pg_span_run.specs.Orders.{ordered}
use Rattle.pg_span_verdict.proofs.Ordered.{ordered_more}
use Rattle.pg_span_verdict.proofs.in_order.events_between.Goals as goal

pub loop-place-init : goal.loop-place-init
loop-place-init c = record {
  low = c.requires.within.0;
  events = sym (append-nil (ordered c.args.run.now.events (take c.args.from c.args.numbers.now)))
      ∙ ap (λ xs. ordered c.args.run.now.events (take c.args.from c.args.numbers.now) ++ xs) (sym c.in_ok-chosen.ensures.items);
}

pub bounds-events-number : goal.bounds-events-number
bounds-events-number c =
    let k : ℕ = c.loop-place.place in
    let here : k < length c.args.numbers.now = omega (arith, c.loop-place-test.true, c.requires.within.1) in
    let low : get_or c.args.numbers.now k 0 < length c.args.run.now.events = c.requires.numbers.within k (get_or c.args.numbers.now k 0) (slice_get-get_or c.args.numbers.now k 0 here) in
    omega (arith, low, ap length c.events-events.ensures.events)

pub loop-place-preserved : goal.loop-place-preserved
loop-place-preserved c =
    let events : List Event = c.args.run.now.events in
    let numbers : List ℕ = c.args.numbers.now in
    let k : ℕ = c.loop-place.place in
    let here : k < length numbers = omega (arith, c.loop-place-test.true, c.requires.within.1) in
    let i : ℕ = get_or numbers k 0 in
    let low : i < length events = c.requires.numbers.within k i (slice_get-get_or numbers k 0 here) in
    let e : Event = c.index-events-number.result in
    let is : e ≡ get_or events i e = c.index-events-number.is ∙ ap (λ xs. get_or xs i e) c.events-events.ensures.events in
    let more : ordered events (take (k + 1) numbers) ≡ ordered events (take k numbers) ++ e ∷ [] = ordered_more events numbers k i e here refl low is in
    record {
      low = omega (arith, c.loop-place-test.true);
      events = more ∙ (ap (λ xs. xs ++ e ∷ []) c.loop-place.invariant.events
          ∙ (append_assoc (ordered events (take c.args.from numbers)) c.loop-place.chosen.items (e ∷ [])
          ∙ ap (λ xs. ordered events (take c.args.from numbers) ++ xs) (sym c.in_ok-push.ensures.items)));
    }

pub returns-clause-more : goal.returns-clause-more
returns-clause-more c =
    let end : c.loop-place.place ≡ c.args.to = omega (arith, c.loop-place.invariant.low, c.loop-place-test.false) in
    ap (λ k. ordered c.args.run.now.events (take k c.args.numbers.now)) (sym end) ∙ c.loop-place.invariant.events
