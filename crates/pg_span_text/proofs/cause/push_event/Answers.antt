use Rattle.std.proofs.Common.{◌≡◌, ◌++◌, List, ℕ, Some, ap, ◌∙◌, string_bytes}
use Rattle.std.proofs.lemmas.List.{append_assoc}
use Rattle.std.proofs.lemmas.Result.{on_ok_weaker}
use Rattle.pg_event.specs.declared.event.Event.{Event}
use Rattle.pg_span_run.specs.Orders.{Spanned}
use Rattle.pg_span_text.specs.Cause.{head_text, walk_text}
use Rattle.pg_span_text.specs.Parts.{walked_address}
use Rattle.pg_span_run.specs.Spans.{span_of}
use Rattle.pg_span_text.proofs.cause.push_event.Goals as goal

pub returns-in-Some : goal.returns-in-Some
returns-in-Some c =
    let s : Spanned = c.args.run.now in
    let number = c.args.number in
    let e : Event = c.args.event.now in
    let la = c.in-Some.la in
    let old = string_bytes c.args.text.now in
    let one = string_bytes c.push_head.new.text in
    let two = string_bytes c.push_walk.new.text in
    let all = walk_text s (span_of s number e) (walked_address e) in
    let walk : walk_text s (span_of s number e) (Some la) ≡ all = ap (walk_text s (span_of s number e)) c.in-Some.ensures in
    on_ok_weaker c.push_walk.result
    (λ (w : two ≡ one ++ walk_text s (span_of s number e) (Some la)).
    w ∙ (ap (λ (t : List ℕ). one ++ t) walk ∙ (ap (λ (t : List ℕ). t ++ all) c.in_ok-push_head.ensures ∙ append_assoc old (head_text s number e) all)))
    c.push_walk.ensures
