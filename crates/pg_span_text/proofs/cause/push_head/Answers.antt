use Rattle.std.proofs.Common.{◌≡◌, ◌++◌, codes, ap, ◌∙◌, string_bytes}
use Rattle.std.proofs.lemmas.Result.{on_ok_weaker}
use Rattle.pg_entry.specs.declared.Cfg.{Cfg}
use Rattle.pg_event.specs.declared.event.Event.{Event}
use Rattle.pg_event.specs.Heads.{Head}
use Rattle.pg_explain.proofs.Lines.{three_written}
use Rattle.pg_span_run.specs.Orders.{Spanned}
use Rattle.pg_span_text.specs.Cause.{numbered_line, given_text}
use Rattle.pg_span_text.proofs.cause.push_head.Goals as goal

pub returns : goal.returns
returns c =
    let s : Spanned = c.args.run.now in
    let number = c.args.number in
    let e : Event = c.args.event.now in
    let one = string_bytes c.push_str.new.self in
    let two = string_bytes c.push_numbered.new.text in
    let three = string_bytes c.push_given.new.text in
    let cfg : c.behind-run.inside.cfg ≡ s.head.cfg = ap (λ (h : Head). h.cfg) (c.behind-run.view_is ∙ c.header.ensures.header) in
    on_ok_weaker c.push_given.result
    (λ (w : three ≡ two ++ given_text c.behind-run.inside.cfg e).
    three_written (string_bytes c.args.text.now) one two three (codes "event: ") (numbered_line s number e) (given_text s.head.cfg e)
    c.in_ok-push_str.ensures.bytes c.in_ok-push_numbered.ensures (w ∙ ap (λ (g : Cfg). two ++ given_text g e) cfg))
    c.push_given.ensures
