use Rattle.std.proofs.Common.{◌≡◌, IfOk, subst}
use Rattle.pg_span_run.specs.Orders.{Spanned}
use Rattle.pg_span_text.specs.declared.parts.WalkCause.{WalkCause}
use Rattle.pg_span_run.specs.declared.span.Span.{Span}
use Rattle.pg_span_text.specs.Parts.{parts_in, parts_of}
use Rattle.pg_span_text.proofs.parts.walk_cause.Goals as goal

pub returns-clause-parts : goal.returns-clause-parts
returns-clause-parts c =
    let s : Spanned = c.args.run.now in
    subst (λ (x : Span). IfOk c.cause_of_span.result (λ (w : WalkCause). parts_in w ≡ parts_of s x c.args.la)) c.span_of.ensures c.cause_of_span.ensures.parts
