use Rattle.std.proofs.Common.{◌≡◌, ◌++◌, ap, ◌∙◌, codes, string_bytes}
use Rattle.std.proofs.lemmas.Result.{on_ok_weaker}
use Rattle.pg_explain.specs.Text.{entry_text}
use Rattle.pg_show_picture.specs.Svg.{entry_style, row_text, placed_text}
use Rattle.pg_show_picture.proofs.Written.{three_written, last_written}
use Rattle.pg_show_picture.proofs.painter.push_entry_box.Goals as goal

pub returns : goal.returns
returns c =
    let b = c.args.drawn.now in
    let old = string_bytes c.args.text.now in
    let one = string_bytes c.push_row.new.text in
    let two = string_bytes c.push_placed.new.text in
    let three = string_bytes c.push_str.new.self in
    let line = entry_text b.entry in
    let row = row_text entry_style 148 b.y 12 in
    let written : c.as_str.result.now ≡ line = c.as_str.ensures.value ∙ (c.in_ok-push_entry.ensures ∙ ap (λ t. t ++ line) c.new-line.ensures.bytes) in
    let placed : two ≡ one ++ placed_text 232 16 line = c.in_ok-push_placed.ensures ∙ ap (λ t. one ++ placed_text 232 16 t) written in
    on_ok_weaker c.push_str.result (λ (w : three ≡ two ++ codes "</g>\n"). three_written old one two three row (placed_text 232 16 line) (codes "</g>\n") c.in_ok-push_row.ensures placed w)
    (last_written c.push_str.result three two (codes "</g>\n") c.push_str.ensures.bytes)
