use Rattle.std.proofs.Common.{List, inl, sym, subst}
use Rattle.pg_certify.specs.Certified.{IsCertified}
use Rattle.pg_check.specs.Kept.{AreWellFormed}
use Rattle.pg_event.specs.declared.event.Event.{Event}
use Rattle.pg_event.specs.Heads.{Head}
use Rattle.pg_event.specs.Spelling.{Recorded, record_bytes}
use Rattle.pg_report.specs.Changes.{filled}
use Rattle.pg_span_run.specs.Orders.{Spanned, ordered}
use Rattle.pg_span_answers.specs.Answers.{GivesOut, IsCertifiedIn}
use Rattle.pg_span_answers.proofs.Found.{found_few, found_well, named_in_order}
use Rattle.pg_span_answers.proofs.answers.give_named.Goals as goal

pub give_record-requires-clause-count : goal.give_record-requires-clause-count
give_record-requires-clause-count g c =
    let s : Spanned = c.args.run.now in
    let order = c.args.order.now in
    let certified = subst (λ (es : List Event). IsCertified s.head (ordered s.events order) es) (sym c.deref.ensures.value) c.in-Ok.ensures in
    found_few s order c.deref.result.now c.events-events.ensures.spanned (record { order_of = c.requires.order_of; certified = certified; run = c.requires.run })

pub give_record-requires-clause-well : goal.give_record-requires-clause-well
give_record-requires-clause-well g c =
    let s : Spanned = c.args.run.now in
    let order = c.args.order.now in
    let found : List Event = c.deref.result.now in
    let certified = subst (λ (es : List Event). IsCertified s.head (ordered s.events order) es) (sym c.deref.ensures.value) c.in-Ok.ensures in
    subst (λ (h : Head). AreWellFormed h found) (sym c.header.ensures.header)
    (found_well s order found c.events-events.ensures.spanned (record { order_of = c.requires.order_of; certified = certified; run = c.requires.run }))

pub returns-in-Ok : goal.returns-in-Ok
returns-in-Ok g c =
    let s : Spanned = c.args.run.now in
    let order = c.args.order.now in
    let found : List Event = c.deref.result.now in
    let certified = subst (λ (es : List Event). IsCertified s.head (ordered s.events order) es) (sym c.deref.ensures.value) c.in-Ok.ensures in
    let output = filled g.O.Sink c.args.output.now c.give_record.new.output in
    let errors = filled g.E.Sink c.args.errors.now c.give_record.new.errors in
    let named : Recorded = record { head = s.head; events = found } in
    let in_order : IsCertifiedIn s order found = record { order_of = c.requires.order_of; certified = certified; run = c.requires.run } in
    let Q : Head → Type 0 = λ head. GivesOut (record_bytes (record { head = head; events = found })) 0 output errors c.give_record.result in
    inl (named, named_in_order s order found c.events-events.ensures.spanned in_order, subst Q c.header.ensures.header c.give_record.ensures)
