use Rattle.std.proofs.Common.{ℕ, List, ◌++◌, length}
use Rattle.std.proofs.lemmas.Result.{err_from_is_err_and}
use Rattle.pg_event.specs.declared.event.Event.{Event}
use Rattle.pg_event.specs.Heads.{Head}
use Rattle.pg_event.specs.Spelling.{header_bytes, segments_bytes, end_bytes}
use Rattle.pg_codec.proofs.Segments.{puts_then, puts_fails}
use Rattle.pg_codec.proofs.writer.write_record.Goals as goal

segments : Head → List Event → List ℕ
segments head events = segments_bytes head 0 (length events) events

pub returns-in_err-write_header : goal.returns-in_err-write_header
unfolding segments
returns-in_err-write_header g c =
    let p = err_from_is_err_and c.from_residual.result c.from_residual.ensures.1 in
    let head = header_bytes c.args.header.now in
    let body = segments c.args.header.now c.args.events.now in
    rw (p.1, p.2) (puts_fails g.W.Sink (head ++ body) (end_bytes (length c.args.events.now)) _ _ _ (puts_fails {X = Unit {0}} {Y = Unit {0}} g.W.Sink head body _ _ c.in_err-write_header.field-0.0 c.in_err-write_header.ensures))

pub returns-in_err-write_segments : goal.returns-in_err-write_segments
unfolding segments
returns-in_err-write_segments g c =
    let p = err_from_is_err_and c.from_residual-in_err-write_segments.result c.from_residual-in_err-write_segments.ensures.1 in
    let head = header_bytes c.args.header.now in
    let body = segments c.args.header.now c.args.events.now in
    rw (p.1, p.2) (puts_fails g.W.Sink (head ++ body) (end_bytes (length c.args.events.now)) _ _ _
    (puts_then g.W.Sink head body _ _ _ _ _ c.in_ok-write_header.ensures c.in_err-write_segments.ensures))

pub returns : goal.returns
unfolding segments
returns g c =
    let head = header_bytes c.args.header.now in
    let body = segments c.args.header.now c.args.events.now in
    puts_then g.W.Sink (head ++ body) (end_bytes (length c.args.events.now)) _ _ _ _ _ (puts_then g.W.Sink head body _ _ _ _ _ c.in_ok-write_header.ensures c.in_ok-write_segments.ensures) c.write_end.ensures
