use Rattle.std.proofs.Common.{◌++◌, ◌∷◌, [], length, take, ap, sym, ◌∙◌, arith, List, ℕ}
use Rattle.std.proofs.lemmas.List.{take_more}
use Rattle.std.proofs.lemmas.Result.{err_from_is_err_and}
use Rattle.pg_event.specs.Spelling.{event_bytes}
use Rattle.pg_codec.specs.Writing.{segment_head_bytes}
use Rattle.pg_codec.proofs.Written.{writing_starts, writing_fails, writing_on, writing_ends}
use Rattle.pg_codec.proofs.writer.write_segment.Goals as goal

pub loop-event-init : goal.loop-event-init
loop-event-init g c =
    let events = c.args.events.now in
    let head = segment_head_bytes c.args.number (length events) in
    writing_starts g.W.Sink (event_bytes c.args.version) head events _ c.push_segment_head.new.block (c.push_segment_head.ensures ∙ ap (λ (l : List ℕ). l ++ head) c.new-block.ensures)

pub returns-in_err-make_room : goal.returns-in_err-make_room
returns-in_err-make_room g c =
    let p = err_from_is_err_and c.from_residual.result c.from_residual.ensures.1 in
    let events = c.args.events.now in
    rw p.1 (writing_fails g.W.Sink (event_bytes c.args.version) (segment_head_bytes c.args.number (length events)) events _ _ _ c.loop-event.block c.loop-event.event-index _ c.loop-event.invariant c.in_err-make_room.ensures.bytes c.in_err-make_room.ensures.failures)

pub loop-event-preserved : goal.loop-event-preserved
loop-event-preserved g c =
    let i = c.loop-event.event-index in
    let events = c.args.events.now in
    let made = c.in_ok-make_room.ensures in
    writing_on g.W.Sink (event_bytes c.args.version) (segment_head_bytes c.args.number (length events)) events _ _ _ c.loop-event.block c.make_room.new.block c.push_event.new.block i c.event-item.result
    c.loop-event.invariant made.bytes made.failures (take_more events i c.event-item.result (omega arith) ∙ ap (λ e. take i events ++ e ∷ []) (sym c.event-item.is)) c.push_event.ensures

pub returns : goal.returns
returns g c =
    let events = c.args.events.now in
    writing_ends g.W.Sink (event_bytes c.args.version) (segment_head_bytes c.args.number (length events)) events _ _ _ c.loop-event.block c.as_slice.result.now c.loop-event.event-index c.put_all.result c.loop-event-test.false
    c.loop-event.invariant c.as_slice.ensures c.put_all.ensures
