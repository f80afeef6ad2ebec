use Rattle.std.proofs.Common.{List, refl, sym, subst}
use Rattle.pg_event.specs.declared.control.Control.{Control}
use Rattle.pg_timeline.specs.declared.timeline.Span.{Span}
use Rattle.pg_reach.specs.Stays.{AreSpans}
use Rattle.pg_reach.proofs.Spans.{spans_under}
use Rattle.pg_reach.proofs.last.last_number_under.Goals as goal

pub new-requires : goal.new-requires
new-requires c =
    spans_under c.args.seen.now c.args.walker c.args.walker.p 0 c.args.walker.number c.deref.result.now refl refl
    (subst (λ (ss : List (Span Control)). AreSpans c.args.seen.now c.args.walker.p 0 c.args.walker.number ss) (sym c.deref.ensures.value) c.in_ok-spans.ensures)
