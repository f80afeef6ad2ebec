use Rattle.std.proofs.Common.{List, subst, sym}
use Rattle.pg_event.specs.declared.event.Event.{Event}
use Rattle.pg_runner.specs.Live.{AreNext}
use Rattle.pg_runner.proofs.GivenOut.{next_more, none_next}
use Rattle.pg_runner.proofs.segments.next_segments.Goals as goal

pub loop-init : goal.loop-init
loop-init c = record { still = c.requires; next = subst (λ (es : List Event). AreNext c.args.board.now c.args.board.now es) (sym c.new-events.ensures.items) (none_next c.args.board.now) }

pub loop-preserved : goal.loop-preserved
loop-preserved c =
    let t = next_more c.in_ok-segment.field-0 c.in-Some.segment c.args.board.now c.loop.board c.take_sealed.new.self c.loop.events.items c.deref.result.now c.extend_from_slice.new.self.items
    c.in_ok-segment.ensures.taken c.in-Some.is c.in_ok-segment.ensures.segment c.in_ok-segment.ensures.formed c.loop.invariant.still c.loop.invariant.next c.deref.ensures.value c.in_ok-extend_from_slice-in-Some.ensures.items in
    record { still = t.0; next = t.1 }
