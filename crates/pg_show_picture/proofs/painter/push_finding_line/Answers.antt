use Rattle.std.proofs.Common.{◌≡◌, ◌++◌, codes, string_bytes}
use Rattle.std.proofs.lemmas.Result.{on_ok_weaker}
use Rattle.pg_show_picture.specs.Svg.{escaped}
use Rattle.pg_show_picture.proofs.Written.{three_written, last_written}
use Rattle.pg_show_picture.proofs.painter.push_finding_line.Goals as goal

pub returns : goal.returns
returns c =
    let old = string_bytes c.args.text.now in
    let one = string_bytes c.push_str.new.self in
    let two = string_bytes c.push_escaped.new.text in
    let three = string_bytes c.push_str-2.new.self in
    let line = escaped c.args.finding.now in
    on_ok_weaker c.push_str-2.result (λ (w : three ≡ two ++ codes "</text>\n"). three_written old one two three (codes "<text x='10' y='24' font-weight='bold'>") line (codes "</text>\n") c.in_ok-push_str.ensures.bytes c.in_ok-push_escaped.ensures w)
    (last_written c.push_str-2.result three two (codes "</text>\n") c.push_str-2.ensures.bytes)
