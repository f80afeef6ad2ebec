use Rattle.std.proofs.Common.{List, ℕ, ◌∙◌, refl, ap, sym}
use Rattle.pg_event.specs.declared.event.Event.{Event}
use Rattle.pg_event.specs.Form.{broken_rule}
use Rattle.pg_codec.specs.Reads.{judged, seen}
use Rattle.pg_codec.proofs.Adding.{no_rule, judged_well}
use Rattle.pg_codec.proofs.decoder.add.Goals as goal

pub returns-clause-added : goal.returns-clause-added
returns-clause-added c = λ i.
    let head = c.args.header.now in
    let x : Event × List ℕ = (c.in-Ok.event, c.in-Ok.rest.now) in
    let well = no_rule c.well_formed-2.result (broken_rule head c.in-Ok.event) c.well_formed-2.ensures (sym c.is_err.ensures.value ∙ c.if-is_err.false) in
    (x, ap (λ part. judged head i (seen (λ y. (y.0, y.1.now)) part)) c.in-Ok.is ∙ judged_well head i x well, refl, c.push_reserved.ensures.items)
