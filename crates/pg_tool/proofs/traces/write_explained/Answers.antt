use Rattle.std.proofs.Common.{◌≡◌, Bool, List, ℕ, true, false, refl, sym, subst, ◌∙◌}
use Rattle.std.proofs.KnownBytes.{Keeps-refl}
use Rattle.pg_event.specs.Spelling.{Recorded}
use Rattle.pg_answers.specs.Unnamed.{is_unnamed}
use Rattle.pg_show_trace.specs.declared.judged.Traced.{Traced}
use Rattle.pg_show_trace.specs.Judged.{IsCertifiedTrace, IsExplainedTrace}
use Rattle.pg_tool.specs.Traces.{IsExplanationTrace, IsExplanationTraceOf}
use Rattle.pg_show_trace.proofs.Given.{trace_of, trace_unread}
use Rattle.pg_tool.proofs.traces.write_explained.Goals as goal

-- by whether the record names no moments
by_test : (b : Bool) (r : Recorded) (x : Traced) (text : List ℕ) → is_unnamed r.events ≡ b → IsExplanationTraceOf b r x text → IsExplanationTrace r x text
by_test b r x text is told = subst (λ (t : Bool). IsExplanationTraceOf t r x text) (sym is) told

pub returns-then-is_unnamed : goal.returns-then-is_unnamed
returns-then-is_unnamed g c =
    let r : Recorded = c.in-Ok.history in
    let is : is_unnamed r.events ≡ true = rw (← c.events.ensures.events) (sym c.is_unnamed.ensures ∙ c.if-is_unnamed.true) in
    trace_of IsExplanationTrace 1 _ _ r c.in-Ok.ensures.reads c.in-Ok.ensures.device (IsCertifiedTrace r) (λ x text told. by_test true r x text is told) c.trace_certified.result c.trace_certified.ensures

pub returns-in-Ok : goal.returns-in-Ok
returns-in-Ok g c =
    let r : Recorded = c.in-Ok.history in
    let is : is_unnamed r.events ≡ false = rw (← c.events.ensures.events) (sym c.is_unnamed.ensures ∙ c.if-is_unnamed.false) in
    trace_of IsExplanationTrace 1 _ _ r c.in-Ok.ensures.reads c.in-Ok.ensures.device (IsExplainedTrace r) (λ x text told. by_test false r x text is told) c.trace_explained.result c.trace_explained.ensures

pub returns : goal.returns
returns g c = trace_unread IsExplanationTrace 1 _ _ _ c.in-Err.error c.in-Err.ensures.reads c.in-Err.ensures.device c.in-Err.ensures.alone (Keeps-refl _) refl
