use Rattle.std.proofs.Common.{◌≡◌, ◌<◌, Some, length, arith, ap, sym, ◌∙◌}
use Rattle.std.specs.Prelude.{slice_get}
use Rattle.std.proofs.lemmas.Option.{slice_get-get_or}
use Rattle.pg_event.specs.declared.event.Event.{Event}
use Rattle.pg_explain.proofs.Noted.{next_known, all_known}
use Rattle.pg_explain.proofs.writer_index.behind_writers.Goals as goal

pub loop-i-preserved : goal.loop-i-preserved
loop-i-preserved c =
    let events = c.args.events.now in
    let i = c.loop-i.i in
    let lt : i < length events = omega arith in
    let at : slice_get events i ≡ Some c.index-events-i.result = slice_get-get_or events i c.index-events-i.result lt ∙ ap (λ (x : Event). Some x) (sym c.index-events-i.is) in
    next_known events i c.index-events-i.result c.loop-i.behind c.note_writer.new.behind at c.loop-i.invariant c.in_ok-note_writer.ensures

pub returns : goal.returns
returns c =
    let all : c.loop-i.i ≡ length c.args.events.now = omega arith in
    all_known c.args.events.now c.loop-i.i c.loop-i.behind all c.loop-i.invariant
