use Rattle.pg_span_run.proofs.Musts.{must_by_spans, not_behind}
use Rattle.pg_span_run.proofs.span.must_precede.Goals as goal

pub returns-then-j-i : goal.returns-then-j-i
returns-then-j-i c = (λ yes. absurd (cc), λ must. absurd (not_behind c.args.run.now c.args.j c.args.i c.if-j-i.true must))

pub returns : goal.returns
returns c =
    must_by_spans c.args.run.now c.args.j c.args.i c.event_of.result.now c.event_of-2.result.now c.span_of-first.result c.span_of-second.result c.precedes.result
    c.event_of.ensures c.event_of-2.ensures c.span_of-first.ensures c.span_of-second.ensures c.precedes.ensures
