use Rattle.std.proofs.Common.{◌≡◌, ◌+◌, ◌++◌, ℕ, List, Option, Ok, Err, length, length-append, cond, sym, ap, subst, ◌∙◌, arith}
use Rattle.pg_event.specs.declared.event.Event.{Event}
use Rattle.pg_event.specs.declared.version.Version.TheVariants.{Two}
use Rattle.pg_event.specs.Heads.{Head}
use Rattle.pg_event.specs.Spelling.{Recorded}
use Rattle.pg_codec.specs.Streams.{raised}
use Rattle.pg_report.specs.Changes.{drawn, filled}
use Rattle.pg_report.specs.Going.{IsGoing}
use Rattle.pg_report.specs.Intake.{is_device}
use Rattle.pg_report.proofs.Continuing.{going_on, going_ends, going_fails, end_counts, failure_counts}
use Rattle.pg_show_trace.proofs.Items.{part_for, scene_append}
use Rattle.pg_show_trace.proofs.Parts.{part_then, part_is}
use Rattle.pg_show_trace.proofs.Reading.{all_as_some, reader_stops, writer_stops, stop_reads, stop_alone, error_alone}
use Rattle.pg_show_trace.proofs.shown.write_rest.Goals as goal

pub write_events-requires : goal.write_events-requires
write_events-requires g c =
    let was = c.loop.invariant in
    let going = c.requires.going in
    let read = c.in-Ok-Some.ensures in
    let items : List Event = c.in-Ok-Some.events.items in
    let r : Recorded = record { head = going.0; events = was.0 } in
    let on = going_on g.R.Source Two going.1 going.2 _ _ c.loop.reader.stage r c.loop.counter (was.4 going.0 going.1 going.2 going.3) items _
    (rw c.in-Ok-Some.field-0-is at read.pulls) (rw c.in-Ok-Some.field-0-is at read.next) (rw c.in-Ok-Some.field-0-is at read.stage) in
    rw c.deref-in-Ok-Some.ensures.value (omega (arith, length-append was.0 items, on.few, was.1))

pub number_after-next-requires : goal.number_after-next-requires
number_after-next-requires g c =
    let was = c.loop.invariant in
    let going = c.requires.going in
    let read = c.in-Ok-Some.ensures in
    let items : List Event = c.in-Ok-Some.events.items in
    let r : Recorded = record { head = going.0; events = was.0 } in
    let on = going_on g.R.Source Two going.1 going.2 _ _ c.loop.reader.stage r c.loop.counter (was.4 going.0 going.1 going.2 going.3) items _
    (rw c.in-Ok-Some.field-0-is at read.pulls) (rw c.in-Ok-Some.field-0-is at read.next) (rw c.in-Ok-Some.field-0-is at read.stage) in
    rw c.deref.ensures.value (omega (arith, length-append was.0 items, on.few, was.1))

pub returns-in-Ok-None : goal.returns-in-Ok-None
returns-in-Ok-None g c =
    let was = c.loop.invariant in
    let going = c.requires.going in
    let pulls = rw c.in-Ok-None.field-0-is at c.in-Ok-None.ensures.pulls in
    let first = was.4 going.0 going.1 going.2 going.3 in
    let r : Recorded = record { head = going.0; events = was.0 } in (
      was.0,
      record {
        bytes = was.2.bytes;
        failures = (end_counts g.R.Source Two going.1 going.2 _ _ c.loop.reader.stage r c.loop.counter first pulls ∙ sym going.3.failed, was.2.device);
        alone = tt;
      },
      λ head start f h. going_ends g.R.Source Two start f _ _ c.loop.reader.stage (record { head = head; events = was.0 }) c.loop.counter (was.4 head start f h) pulls,
    )

pub returns-in-Err : goal.returns-in-Err
returns-in-Err g c =
    let was = c.loop.invariant in
    let going = c.requires.going in
    let pulls = c.in-Err.ensures.pulls in
    let x = c.audit_error.result in
    let after = c.read_segment_in.new.source in
    let input = drawn g.R.Source c.args.source.now after in
    let output = filled g.O.Sink c.args.output.now c.loop.output in
    let first = was.4 going.0 going.1 going.2 going.3 in
    let r : Recorded = record { head = going.0; events = was.0 } in
    let counted = failure_counts g.R.Source Two going.1 going.2 _ _ c.loop.reader.stage r c.loop.counter first c.in-Err.error x c.audit_error.ensures pulls in (
      was.0,
      record {
        bytes = all_as_some _ _ _ was.2.bytes;
        failures = reader_stops (Unit {0}) (Unit {0}) input output x (subst (λ (n : ℕ). g.R.Source.failed after ≡ cond (is_device x) (raised n) n) (sym going.3.failed) counted) was.2.device;
        alone = error_alone c.in-Err.error x c.audit_error.ensures;
      },
      λ head start f h. going_fails g.R.Source Two start f _ _ c.loop.reader.stage (record { head = head; events = was.0 }) c.loop.counter (was.4 head start f h) c.in-Err.error x c.audit_error.ensures pulls,
    )

pub returns-in-Err-write_events : goal.returns-in-Err-write_events
returns-in-Err-write_events g c =
    let was = c.loop.invariant in
    let going = c.requires.going in
    let read = c.in-Ok-Some.ensures in
    let items : List Event = c.in-Ok-Some.events.items in
    let first = was.4 going.0 going.1 going.2 going.3 in
    let r : Recorded = record { head = going.0; events = was.0 } in
    let on = going_on g.R.Source Two going.1 going.2 _ _ c.loop.reader.stage r c.loop.counter first items _
    (rw c.in-Ok-Some.field-0-is at read.pulls) (rw c.in-Ok-Some.field-0-is at read.next) (rw c.in-Ok-Some.field-0-is at read.stage) in
    let e = c.in-Err-write_events.error in
    let next = part_for c.args.scene.now was.0 items _ c.loop.number _ (Err e) was.1 c.deref-in-Ok-Some.ensures.value c.in-Err-write_events.ensures in
    let whole = part_is _ _ _ (Err e) (sym (scene_append c.args.scene.now was.0 items)) (part_then g.O.Sink _ _ _ _ _ tt (Err e) was.2 next) in (
      was.0 ++ items,
      record {
        bytes = whole.bytes;
        failures = writer_stops (Unit {0}) (Unit {0}) (drawn g.R.Source c.args.source.now c.read_segment_in.new.source) (filled g.O.Sink c.args.output.now c.write_events.new.output) e (on.failed ∙ sym going.3.failed) whole.device whole.stop;
        alone = stop_alone e whole.stop;
      },
      λ head start f h. stop_reads start e whole.stop,
    )

pub loop-preserved : goal.loop-preserved
loop-preserved g c =
    let was = c.loop.invariant in
    let read = c.in-Ok-Some.ensures in
    let items : List Event = c.in-Ok-Some.events.items in
    let next = part_for c.args.scene.now was.0 items _ c.loop.number _ (Ok tt) was.1 c.deref-in-Ok-Some.ensures.value c.in-Ok.ensures in
    let whole = part_is _ _ _ (Ok tt) (sym (scene_append c.args.scene.now was.0 items)) (part_then g.O.Sink _ _ _ _ _ tt (Ok tt) was.2 next) in
    let step : (head : Head) (start : Option (List ℕ)) (f : ℕ) → IsGoing g.R.Source Two start f (c.loop.reader.unread, c.loop.source) c.loop.reader.stage (record { head = head; events = was.0 }) c.loop.counter
    → IsGoing g.R.Source Two start f (c.read_segment_in.new.self.unread, c.read_segment_in.new.source) c.read_segment_in.new.self.stage (record { head = head; events = was.0 ++ items }) (c.loop.counter + 1) =
    (λ head start f h.
    going_on g.R.Source Two start f _ _ c.loop.reader.stage (record { head = head; events = was.0 }) c.loop.counter h items _
    (rw c.in-Ok-Some.field-0-is at read.pulls) (rw c.in-Ok-Some.field-0-is at read.next) (rw c.in-Ok-Some.field-0-is at read.stage)) in
    let number : c.number_after-next.result ≡ length (was.0 ++ items) =
    c.number_after-next.ensures ∙ ap (λ n. n + length c.deref.result.now) was.1 ∙ ap (λ (es : List Event). length was.0 + length es) c.deref.ensures.value ∙ sym (length-append was.0 items) in
    (was.0 ++ items, number, whole, (was.3.0, was.3.1, was.3.2, step was.3.0 was.3.1 was.3.2 was.3.3), λ head start f h. step head start f (was.4 head start f h))
