use Rattle.std.proofs.Common.{codes, string_bytes}
use Rattle.std.proofs.lemmas.Result.{on_ok_weaker}
use Rattle.pg_span_text.specs.Text.{held_text, writer_text, reason_text}
use Rattle.pg_span_text.proofs.Shown.{four_written}
use Rattle.pg_span_text.proofs.seen_lines.push_gone.Goals as goal

pub returns : goal.returns
returns c =
    let x = c.args.seen in
    on_ok_weaker c.push_reason.result
    (four_written (string_bytes c.args.text.now) (string_bytes c.push_str.new.self) (string_bytes c.push_held.new.text) (string_bytes c.push_writer.new.text) (string_bytes c.push_reason.new.text)
    (codes "can't read: ") (held_text x.address x.value) (writer_text x.writer) (reason_text c.args.gone)
    c.in_ok-push_str.ensures.bytes c.in_ok-push_held.ensures c.in_ok-push_writer.ensures)
    c.push_reason.ensures
