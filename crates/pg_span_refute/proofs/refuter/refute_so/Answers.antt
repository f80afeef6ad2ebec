use Rattle.std.proofs.Common.{◌<◌, List, Some, get_or, length, sym, ap, ◌∙◌, arith}
use Rattle.std.proofs.lemmas.Option.{slice_get-get_or}
use Rattle.pg_event.specs.declared.event.Event.{Event}
use Rattle.pg_span_refute.proofs.refuter.refute_so.Goals as goal

pub refute_walk-requires-clause-there : goal.refute_walk-requires-clause-there
refute_walk-requires-clause-there c =
    let e : Event = c.index-events-number.result in
    let events : List Event = c.args.run.now.events in
    let within : c.args.number < length events = omega (arith, c.if-number-len.false, c.len.ensures.length) in
    slice_get-get_or events c.args.number e within ∙ ap Some (sym (c.index-events-number.is ∙ ap (λ (xs : List Event). get_or xs c.args.number e) c.events.ensures.events))
