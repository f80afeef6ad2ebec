use Rattle.std.proofs.Common.{◌≡◌, ◌+◌, ◌<◌, Some, length, arith, ap, sym, subst, ◌∙◌}
use Rattle.std.specs.Prelude.{slice_get}
use Rattle.std.proofs.lemmas.Option.{slice_get-get_or}
use Rattle.pg_event.specs.declared.event.Event.{Event}
use Rattle.pg_search.specs.Writers.{IsWriter, writes_some}
use Rattle.pg_search.proofs.Writers.{writer-passed, writer-found, writer-whole}
use Rattle.pg_search.proofs.seen.writer_among.Goals as goal
use Rattle.pg_search.proofs.seen.writer_among.Goals.{then-writes, else-writes}

pub loop-i-preserved : goal.loop-i-preserved
loop-i-preserved c =
    let events = c.args.events.now in
    let a = c.args.address in
    let i = c.loop-i.i in
    let lt : i < length events = omega arith in
    let at : slice_get events i ≡ Some c.index-events-i.result = slice_get-get_or events i c.index-events-i.result lt ∙ ap (λ (x : Event). Some x) (sym c.index-events-i.is) in
    elim c.if-writes.branch [
      | then-writes w ↦
          subst (IsWriter events a (i + 1)) (sym w.last-is)
          (writer-found events a i (ap (writes_some a) at ∙ sym c.writes.ensures ∙ w.if-writes.true))
      | else-writes w ↦
          subst (IsWriter events a (i + 1)) (sym w.last-is)
          (writer-passed events a i c.loop-i.last c.loop-i.invariant (ap (writes_some a) at ∙ sym c.writes.ensures ∙ w.if-writes.false))
    ]

pub returns : goal.returns
returns c =
    let end : c.loop-i.i ≡ c.min-i-end.result = omega arith in
    writer-whole c.args.events.now c.args.address c.loop-i.i c.min-i-end.result c.args.moment c.loop-i.last c.min-i-end.ensures end c.loop-i.invariant
