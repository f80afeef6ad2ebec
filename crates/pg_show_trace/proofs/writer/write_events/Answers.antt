use Rattle.std.proofs.Common.{◌≤◌, ◌+◌, Ok, Err, List, drop, length, ap, arith}
use Rattle.std.proofs.lemmas.List.{take_all}
use Rattle.pg_event.specs.declared.event.Event.{Event}
use Rattle.pg_show_trace.specs.Texts.{scene_items}
use Rattle.pg_show_trace.proofs.Items.{items_rest, items_take}
use Rattle.pg_show_trace.proofs.Parts.{part_is, part_stops, part_then}
use Rattle.pg_show_trace.proofs.writer.write_events.Goals as goal

pub loop-from-preserved : goal.loop-from-preserved
loop-from-preserved g c =
    let scene = c.args.scene.now in
    let first = c.args.first in
    let events : List Event = c.args.events.now in
    let from = c.loop-from.from in
    let to = c.min-to.result in
    let within : to ≤ length events = omega arith in
    let later : from ≤ to = omega arith in
    (within, part_is _ _ _ (Ok tt) (items_take scene first events from to later within) (part_then g.O.Sink _ _ _ _ _ tt (Ok tt) c.loop-from.invariant.1 c.in-Ok.ensures))

pub returns-in-Err : goal.returns-in-Err
returns-in-Err g c =
    let scene = c.args.scene.now in
    let first = c.args.first in
    let events : List Event = c.args.events.now in
    let from = c.loop-from.from in
    let to = c.min-to.result in
    let within : to ≤ length events = omega arith in
    let later : from ≤ to = omega arith in
    let e = c.in-Err.error in
    let some = part_is _ _ _ (Err e) (items_take scene first events from to later within) (part_then g.O.Sink _ _ _ _ _ tt (Err e) c.loop-from.invariant.1 c.in-Err.ensures) in
    (part_is _ _ _ (Err e) (items_rest scene first events to within) (part_stops g.O.Sink _ _ _ (scene_items scene (first + to) (drop to events)) e some))

pub returns : goal.returns
returns g c =
    let scene = c.args.scene.now in
    let events : List Event = c.args.events.now in
    part_is _ _ _ (Ok tt) (ap (λ (es : List Event). scene_items scene c.args.first es) (take_all c.loop-from.from events (omega arith))) c.loop-from.invariant.1
