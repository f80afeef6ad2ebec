use Rattle.std.proofs.Common.{◌≡◌, ◌+◌, ◌++◌, false, List, drop, refl, ap, sym, ◌∙◌, string_bytes}
use Rattle.std.specs.Prelude.{slice_index_or}
use Rattle.pg_event.specs.declared.event.Event.{Event}
use Rattle.pg_event.specs.Form.{processor_of}
use Rattle.pg_explain.specs.Filters.{fits, is_user, is_shown}
use Rattle.pg_show_json_answers.specs.Answers.{shown_line, lines_where}
use Rattle.pg_explain.proofs.Loops.{next_written, all_written}
use Rattle.pg_show_json_answers.proofs.lines.shown_json.Goals as goal

pub loop-i-preserved : goal.loop-i-preserved
loop-i-preserved c =
    let selection = c.args.selection in
    let events : List Event = c.args.events.now in
    let i = c.loop-i.i in
    let e : Event = c.index-events-i.result in
    let text = string_bytes c.loop-i.text in
    let test = is_shown selection events in
    let p = c.processor_of.result in
    let is_its : c.is_marked-is_its.result ≡ is_user events selection.page (processor_of e) =
    c.is_marked-is_its.ensures ∙ ap (λ ms. slice_index_or ms p false) c.deref.ensures.value ∙ c.in_ok-marks.ensures p c.processor_of.type_inv ∙ ap (is_user events selection.page) c.processor_of.ensures in
    let shown : c.fits-is_shown.result ≡ test i e = c.fits-is_shown.ensures ∙ ap (λ b. fits selection b i e) is_its in
    let wrote = c.in_ok-push_shown.ensures ∙ ap (λ b. text ++ shown_line b i e) shown in
    next_written (lines_where test i) (lines_where test (i + 1)) (shown_line (test i e) i e) events i e text (string_bytes c.push_shown.new.text) _ c.loop-i-test.true
    (ap (λ (x : Event). shown_line (test i x) i x ++ lines_where test (i + 1) (drop (i + 1) events)) (sym c.index-events-i.is)) wrote c.loop-i.invariant

pub returns : goal.returns
returns c = all_written (lines_where (is_shown c.args.selection c.args.events.now) c.loop-i.i) c.args.events.now c.loop-i.i (string_bytes c.loop-i.text) _ c.loop-i-test.false refl c.loop-i.invariant
