use Rattle.std.proofs.Common.{◌≡◌, ◌+◌, ◌++◌, false, List, drop, refl, ap, sym, ◌∙◌, string_bytes}
use Rattle.std.specs.Prelude.{slice_index_or}
use Rattle.pg_event.specs.declared.event.Event.{Event}
use Rattle.pg_event.specs.Form.{processor_of}
use Rattle.pg_explain.specs.Filters.{fits, is_user, is_shown}
use Rattle.pg_explain.proofs.Loops.{next_written, all_written}
use Rattle.pg_span_run.specs.Orders.{Spanned}
use Rattle.pg_show_json_answers.specs.SpannedLines.{spanned_line, lines_from}
use Rattle.pg_show_json_answers.proofs.spanned_lines.spanned_json_lines.Goals as goal

pub loop-i-preserved : goal.loop-i-preserved
loop-i-preserved c =
    let selection = c.args.selection in
    let s : Spanned = c.args.run.now in
    let events : List Event = c.events-events.result.now in
    let same : events ≡ s.events = c.events-events.ensures.events in
    let i = c.loop-i.i in
    let e : Event = c.index-events-i.result in
    let text = string_bytes c.loop-i.text in
    let p = c.processor_of.result in
    let is_its : c.is_marked-is_its.result ≡ is_user s.events selection.page (processor_of e) =
    c.is_marked-is_its.ensures ∙ ap (λ ms. slice_index_or ms p false) c.deref.ensures.value ∙ c.in_ok-marks.ensures p c.processor_of.type_inv
    ∙ ap (λ (es : List Event). is_user es selection.page p) same ∙ ap (is_user s.events selection.page) c.processor_of.ensures in
    let shown : c.fits-is_shown.result ≡ is_shown selection s.events i e = c.fits-is_shown.ensures ∙ ap (λ b. fits selection b i e) is_its in
    let wrote = c.in_ok-push_shown.ensures ∙ ap (λ b. text ++ spanned_line b s i e) shown in
    next_written (lines_from selection s i) (lines_from selection s (i + 1)) (spanned_line (is_shown selection s.events i e) s i e) events i e text (string_bytes c.push_shown.new.text) _ c.loop-i-test.true
    (ap (λ (x : Event). spanned_line (is_shown selection s.events i x) s i x ++ lines_from selection s (i + 1) (drop (i + 1) events)) (sym c.index-events-i.is)) wrote c.loop-i.invariant

pub returns : goal.returns
returns c =
    let s : Spanned = c.args.run.now in
    let events : List Event = c.events-events.result.now in
    all_written (lines_from c.args.selection s c.loop-i.i) events c.loop-i.i (string_bytes c.loop-i.text) _ c.loop-i-test.false refl c.loop-i.invariant
    ∙ ap (lines_from c.args.selection s 0) c.events-events.ensures.events
