use Rattle.std.proofs.Common.{◌≡◌, ℕ, IfOk, Option, None, string_bytes, subst}
use Rattle.pg_span_run.specs.Orders.{Spanned}
use Rattle.pg_show_trace.specs.Spans.{document_text, never_mark}
use Rattle.pg_span_answers.proofs.texts.trace_text.Goals as goal

pub returns : goal.returns
returns c =
    let s : Spanned = c.args.run.now in
    subst (λ (n : Option ℕ). IfOk c.spanned_verdict_trace.result (λ t. string_bytes t ≡ document_text None (never_mark s n) s)) c.never_in-never.ensures c.spanned_verdict_trace.ensures
