use Rattle.std.proofs.Common.{◌≡◌, ◌∙◌, ◌++◌, ℕ, List, ap, length, refl, append_assoc, string_bytes}
use Rattle.pg_event.specs.declared.event.Event.{Event}
use Rattle.pg_explain.proofs.Loops.{all_written}
use Rattle.pg_span_run.specs.Orders.{Spanned}
use Rattle.pg_show_trace.specs.Objects.{ending_text, opening_text}
use Rattle.pg_show_trace.specs.Spans.{spanned_items}
use Rattle.pg_show_trace.specs.Texts.{marking}
use Rattle.pg_show_trace.proofs.spans.document.Goals as goal

pub returns : goal.returns
returns c =
    let s : Spanned = c.args.run.now in
    let mark = marking c.args.mark.now in
    let events : List Event = c.events-events.result.now in
    let text = string_bytes c.loop-i.text in
    let head : List ℕ = opening_text (length s.head.processors) in
    let items : List Event → List ℕ = λ es. spanned_items c.args.selection mark s 0 es in
    let whole : text ≡ head ++ items events = all_written (λ es. spanned_items c.args.selection mark s c.loop-i.i es) events c.loop-i.i text _ c.loop-i-test.false refl c.loop-i.invariant in
    c.in_ok-push_str.ensures.bytes
    ∙ ap (λ (t : List ℕ). text ++ t) (c.as_str.ensures.value ∙ c.in_ok-end.ensures)
    ∙ ap (λ (t : List ℕ). t ++ ending_text mark) (whole ∙ ap (λ (es : List Event). head ++ items es) c.events-events.ensures.events)
    ∙ append_assoc head (items s.events) (ending_text mark)
