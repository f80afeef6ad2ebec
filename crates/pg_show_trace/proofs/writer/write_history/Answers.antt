use Rattle.std.proofs.Common.{◌++◌, Ok, Err, List, length, ap}
use Rattle.pg_event.specs.declared.event.Event.{Event}
use Rattle.pg_event.specs.Heads.{Head}
use Rattle.pg_report.specs.Changes.{filled}
use Rattle.pg_show_trace.specs.Objects.{ending_text, opening_text}
use Rattle.pg_show_trace.specs.Texts.{marking, scene_items}
use Rattle.pg_show_trace.proofs.Parts.{part_is, part_stops, part_then}
use Rattle.pg_show_trace.proofs.writer.write_history.Goals as goal

pub returns-in-Err : goal.returns-in-Err
returns-in-Err g c =
    let scene = c.args.scene.now in
    rw (← c.header.ensures.header) (part_stops g.O.Sink _ _ _ (scene_items scene 0 c.args.history.now.events ++ ending_text (marking scene.mark)) c.in-Err.error c.in-Err.ensures)

pub returns-in-Ok-write_events : goal.returns-in-Ok-write_events
returns-in-Ok-write_events g c =
    let scene = c.args.scene.now in
    let r = c.args.history.now in
    let o0 = c.args.output.now in
    let o1 = c.write_opening.new.output in
    let o2 = c.write_events.new.output in
    let o3 = c.write_ending.new.output in
    let opened = part_is (filled g.O.Sink o0 o1) _ (opening_text (length r.head.processors)) (Ok tt) (ap (λ (h : Head). opening_text (length h.processors)) c.header.ensures.header) c.in-Ok.ensures in
    let items = part_is (filled g.O.Sink o1 o2) _ (scene_items scene 0 r.events) (Ok tt) (ap (λ (es : List Event). scene_items scene 0 es) c.events.ensures.events) c.in-Ok-write_events.ensures in
    let ended = part_then g.O.Sink o1 o2 o3 (scene_items scene 0 r.events) (ending_text (marking scene.mark)) tt c.write_ending.result items c.write_ending.ensures in
    part_then g.O.Sink o0 o1 o3 (opening_text (length r.head.processors)) (scene_items scene 0 r.events ++ ending_text (marking scene.mark)) tt c.write_ending.result opened ended

pub returns-in-Err-write_events : goal.returns-in-Err-write_events
returns-in-Err-write_events g c =
    let scene = c.args.scene.now in
    let r = c.args.history.now in
    let o0 = c.args.output.now in
    let o1 = c.write_opening.new.output in
    let o2 = c.write_events.new.output in
    let e = c.in-Err-write_events.error in
    let opened = part_is (filled g.O.Sink o0 o1) _ (opening_text (length r.head.processors)) (Ok tt) (ap (λ (h : Head). opening_text (length h.processors)) c.header.ensures.header) c.in-Ok.ensures in
    let items = part_is (filled g.O.Sink o1 o2) _ (scene_items scene 0 r.events) (Err e) (ap (λ (es : List Event). scene_items scene 0 es) c.events.ensures.events) c.in-Err-write_events.ensures in
    let stopped = part_stops g.O.Sink o1 o2 (scene_items scene 0 r.events) (ending_text (marking scene.mark)) e items in
    part_then g.O.Sink o0 o1 o2 (opening_text (length r.head.processors)) (scene_items scene 0 r.events ++ ending_text (marking scene.mark)) tt (Err e) opened stopped
