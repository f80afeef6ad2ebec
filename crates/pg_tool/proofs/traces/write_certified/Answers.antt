use Rattle.std.proofs.Common.{ℕ, refl, subst}
use Rattle.std.proofs.KnownBytes.{Keeps-refl}
use Rattle.pg_event.specs.Spelling.{Recorded}
use Rattle.pg_report.specs.Changes.{filled}
use Rattle.pg_show_trace.specs.Given.{WritesTrace}
use Rattle.pg_show_trace.specs.Judged.{IsCertifiedTrace}
use Rattle.pg_show_trace.proofs.Given.{trace_of, trace_unread}
use Rattle.pg_tool.proofs.traces.write_certified.Goals as goal

pub returns-in-Ok : goal.returns-in-Ok
returns-in-Ok g c =
    let r : Recorded = c.in-Ok.history in
    let output = filled g.O.Sink c.args.output.now c.trace_certified.new.output in
    let wrote = subst (λ (n : ℕ). WritesTrace (IsCertifiedTrace r) n output c.trace_certified.result) c.number.ensures.value c.trace_certified.ensures in
    trace_of IsCertifiedTrace c.args.checkers _ output r c.in-Ok.ensures.reads c.in-Ok.ensures.device (IsCertifiedTrace r) (λ x text is. is) c.trace_certified.result wrote

pub returns-in-Err : goal.returns-in-Err
returns-in-Err g c = trace_unread IsCertifiedTrace c.args.checkers _ _ _ c.in-Err.error c.in-Err.ensures.reads c.in-Err.ensures.device c.in-Err.ensures.alone (Keeps-refl _) refl
