use Rattle.std.proofs.Common.{◌≡◌, ◌<◌, ◌≤◌, ℕ, length, get_or, arith, ap, sym, ◌∙◌, Some}
use Rattle.std.specs.Prelude.{slice_get}
use Rattle.std.specs.Option.{option_map}
use Rattle.std.proofs.lemmas.List.{length-set}
use Rattle.pg_event.specs.Form.{processor_of}
use Rattle.pg_span_run.proofs.Bounds.{programs_broken, programs_bounds, programs_more, own_at}
use Rattle.std.proofs.lemmas.Option.{slice_get-get_or}
use Rattle.pg_span_run.proofs.Places.{read_at, AllByRecursion-at}
use Rattle.pg_span_run.proofs.order.keeps_programs.Goals as goal

pub returns-then-places-i : goal.returns-then-places-i
returns-then-places-i c =
    let i : ℕ = c.loop-i.i in
    let p : ℕ = c.processor_of-p.result in
    let within : i < length c.args.events.now = c.loop-i-test.true in
    let known : p < c.args.processors = omega (arith, AllByRecursion-at (λ e. processor_of e < c.args.processors) c.args.events.now c.loop-i.i c.index-events-i.result c.requires.known (slice_get-get_or c.args.events.now c.loop-i.i c.index-events-i.result c.loop-i-test.true ∙ ap Some (sym c.index-events-i.is)), c.processor_of-p.ensures) in
    let own : option_map processor_of (slice_get c.args.events.now i) ≡ Some p = own_at c.args.events.now i c.index-events-i.result p within c.index-events-i.is c.processor_of-p.ensures in
    let here : c.index.result.now ≡ get_or c.loop-i.bounds.items p 0 = read_at c.loop-i.bounds.items p c.index.result.now (omega (arith, known, c.loop-i.invariant.count)) c.index.ensures in
    (λ no. absurd (cc), λ kept. absurd (programs_broken c.args.events.now c.args.places.now i p (get_or c.loop-i.bounds.items p 0) within own (c.loop-i.invariant.each p known) (omega (arith, here, c.if-places-i.true)) kept))

pub loop-i-preserved : goal.loop-i-preserved
loop-i-preserved c =
    let i : ℕ = c.loop-i.i in
    let p : ℕ = c.processor_of-p.result in
    let within : i < length c.args.events.now = c.loop-i-test.true in
    let known : p < c.args.processors = omega (arith, AllByRecursion-at (λ e. processor_of e < c.args.processors) c.args.events.now c.loop-i.i c.index-events-i.result c.requires.known (slice_get-get_or c.args.events.now c.loop-i.i c.index-events-i.result c.loop-i-test.true ∙ ap Some (sym c.index-events-i.is)), c.processor_of-p.ensures) in
    let count : length c.loop-i.bounds.items ≡ c.args.processors = c.loop-i.invariant.count in
    let own : option_map processor_of (slice_get c.args.events.now i) ≡ Some p = own_at c.args.events.now i c.index-events-i.result p within c.index-events-i.is c.processor_of-p.ensures in
    let here : c.index.result.now ≡ get_or c.loop-i.bounds.items p 0 = read_at c.loop-i.bounds.items p c.index.result.now (omega (arith, known, count)) c.index.ensures in
    let behind : get_or c.loop-i.bounds.items p 0 ≤ get_or c.args.places.now i 0 = omega (arith, here, c.if-places-i.false) in
    record {
      count = length-set c.loop-i.bounds.items p _ ∙ count;
      each = λ q lt. programs_bounds c.args.events.now c.args.places.now c.loop-i.bounds.items i p own (omega (arith, known, count)) behind (λ r less. c.loop-i.invariant.each r (omega (arith, less, count))) q (omega (arith, lt, count));
      kept = programs_more c.args.events.now c.args.places.now i p (get_or c.loop-i.bounds.items p 0) own (c.loop-i.invariant.each p known) behind c.loop-i.invariant.kept;
    }
