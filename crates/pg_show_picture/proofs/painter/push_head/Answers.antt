use Rattle.std.proofs.Common.{◌≡◌, ◌++◌, string_bytes}
use Rattle.std.proofs.lemmas.Result.{on_ok_weaker}
use Rattle.pg_show_picture.specs.Svg.{open_text, title_text, markers_text, paper_text, lines_text}
use Rattle.pg_show_picture.proofs.Written.{five_written}
use Rattle.pg_show_picture.proofs.painter.push_head.Goals as goal

pub returns : goal.returns
returns c =
    let x = c.args.explanation.now in
    let l = c.args.layout.now in
    let old = string_bytes c.args.text.now in
    let one = string_bytes c.push_open.new.text in
    let two = string_bytes c.push_title.new.text in
    let three = string_bytes c.push_markers.new.text in
    let four = string_bytes c.push_paper.new.text in
    let five = string_bytes c.push_lines.new.text in
    let lines = lines_text c.args.events.now x c.args.note.now in
    on_ok_weaker c.push_lines.result (λ (w : five ≡ four ++ lines). five_written old one two three four five (open_text l.height l.letters) (title_text x.number) markers_text (paper_text l.height) lines c.in_ok-push_open.ensures c.in_ok-push_title.ensures c.in_ok-push_markers.ensures c.in_ok-push_paper.ensures w)
    c.push_lines.ensures
