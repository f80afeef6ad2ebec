use Rattle.std.proofs.Common.{◌≡◌, ◌+◌, ◌<◌, ◌++◌, Some, length, arith, ap, sym, subst, ◌∙◌}
use Rattle.std.specs.Prelude.{slice_get}
use Rattle.std.proofs.lemmas.Option.{slice_get-get_or}
use Rattle.pg_event.specs.declared.event.Event.{Event}
use Rattle.pg_search.specs.Writers.{listed_of}
use Rattle.pg_search.proofs.Listed.{HaveBefore, none_before, one_before, all_before}
use Rattle.pg_search.proofs.written.written_among.Goals as goal

pub loop-i-init : goal.loop-i-init
loop-i-init c = none_before c.args.events.now c.args.moment c.new-found.result.items

pub loop-i-preserved : goal.loop-i-preserved
loop-i-preserved c =
    let events = c.args.events.now in
    let i = c.loop-i.i in
    let lt : i < length events = omega arith in
    let at : slice_get events i ≡ Some c.index-events-i.result = slice_get-get_or events i c.index-events-i.result lt ∙ ap (λ (x : Event). Some x) (sym c.index-events-i.is) in
    let list = c.in_ok-list_written.ensures ∙ ap (λ o. c.loop-i.found.items ++ listed_of c.args.moment i o) c.word_of.ensures in
    subst (HaveBefore events c.args.moment (i + 1)) (sym list) (one_before events c.args.moment i c.index-events-i.result c.loop-i.found.items at c.loop-i.invariant)

pub returns : goal.returns
returns c = all_before c.args.events.now c.args.moment c.loop-i.i c.min-i-end.result c.loop-i.found.items c.min-i-end.ensures (omega arith) c.loop-i.invariant
