use Rattle.std.proofs.Common.{◌∙◌, ◌++◌, ℕ, Bool, List, ap, sym, string_bytes}
use Rattle.pg_event.specs.declared.event.Event.{Event}
use Rattle.pg_show_json.specs.Events.{event_fields}
use Rattle.pg_show_json_answers.specs.Answers.{shown_line}
use Rattle.pg_show_json_answers.proofs.lines.push_shown.Goals as goal

pub returns-in_ok-push_str : goal.returns-in_ok-push_str
returns-in_ok-push_str c =
    let n = c.args.number in
    let e : Event = c.args.event.now in
    let line = c.in_ok-line.ensures (event_fields n e) c.in_ok-fields.ensures in
    let shown = c.as_str.ensures.value ∙ line ∙ ap (λ (b : Bool). shown_line b n e) (sym c.if-is_shown.true) in
    c.in_ok-push_str.ensures.bytes ∙ ap (λ (t : List ℕ). string_bytes c.args.text.now ++ t) shown
