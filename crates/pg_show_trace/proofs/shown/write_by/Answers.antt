use Rattle.std.proofs.Common.{◌≡◌, ◌++◌, [], Ok, Err, inl, inr, ap, refl, ◌∙◌}
use Rattle.std.proofs.KnownBytes.{Keeps-refl}
use Rattle.std.specs.Prelude.{Result, IfOk}
use Rattle.pg_event.specs.declared.version.Version.TheVariants.{Two}
use Rattle.pg_event.specs.Spelling.{Recorded}
use Rattle.pg_codec.specs.Readers.{Reader}
use Rattle.pg_codec.proofs.Written.{appends_some_after}
use Rattle.pg_report.specs.declared.error.AuditError.{AuditError}
use Rattle.pg_report.specs.Changes.{drawn, filled}
use Rattle.pg_report.proofs.Continuing.{error_counts, fresh_header_fails, going_from_fresh}
use Rattle.pg_show_trace.specs.Given.{WritesPart}
use Rattle.pg_show_trace.specs.Objects.{ending_text}
use Rattle.pg_show_trace.specs.Shown.{IsSceneTrace}
use Rattle.pg_show_trace.specs.Texts.{marking, scene_items, scene_text}
use Rattle.pg_show_trace.proofs.Given.{trace_given, trace_stops}
use Rattle.pg_show_trace.proofs.Parts.{part_stops, part_then}
use Rattle.pg_show_trace.proofs.Reading.{error_alone, failures_on, pulled_at_start, reader_stops, stop_alone, stop_reads, writer_stops}
use Rattle.pg_show_trace.proofs.shown.write_by.Goals as goal

unit_same : (result : Result (Unit {0}) AuditError) → IfOk result (λ y. y ≡ tt)
unit_same (Ok tt) = refl
unit_same (Err e) = tt

pub returns-in-Err : goal.returns-in-Err
returns-in-Err g c =
    let x = c.audit_error.result in
    let pulls = pulled_at_start g.R.Source c.args.reader.now.stage _ _ _ (ap (λ (x : Reader). x.stage) c.requires) c.in-Err.ensures.pulls in
    let reads = fresh_header_fails g.R.Source Two c.args.reader.now _ _ c.requires c.in-Err.error x c.audit_error.ensures pulls in
    let counted = error_counts c.in-Err.error x _ _ c.audit_error.ensures pulls.device in
    trace_stops (IsSceneTrace c.args.scene.now) 1 _ _ x reads (inl (Keeps-refl _)) (reader_stops (Unit {0}) (Unit {0}) (drawn g.R.Source c.args.source.now c.read_header.new.source) (filled g.O.Sink c.args.output.now c.args.output.now) x counted refl) (error_alone c.in-Err.error x c.audit_error.ensures)

pub write_rest-requires : goal.write_rest-requires
write_rest-requires g c =
    let read = c.in-Ok.ensures in
    let r : Recorded = record { head = c.in-Ok.header; events = [] } in
    let pulls = pulled_at_start g.R.Source c.args.reader.now.stage _ _ _ (ap (λ (x : Reader). x.stage) c.requires) read.pulls in
    let going = going_from_fresh g.R.Source Two c.args.reader.now _ _ c.requires c.in-Ok.header _ pulls read.stage r refl in
    record { going = (c.in-Ok.header, g.R.Source.left c.args.source.now, g.R.Source.failed c.args.source.now, going) }

pub returns-in-Err-write_opening : goal.returns-in-Err-write_opening
returns-in-Err-write_opening g c =
    let scene = c.args.scene.now in
    let read = c.in-Ok.ensures in
    let r : Recorded = record { head = c.in-Ok.header; events = [] } in
    let pulls = pulled_at_start g.R.Source c.args.reader.now.stage _ _ _ (ap (λ (x : Reader). x.stage) c.requires) read.pulls in
    let going = going_from_fresh g.R.Source Two c.args.reader.now _ _ c.requires c.in-Ok.header _ pulls read.stage r refl in
    let e = c.in-Err-write_opening.error in
    let part = c.in-Err-write_opening.ensures in
    let input = drawn g.R.Source c.args.source.now c.read_header.new.source in
    let output = filled g.O.Sink c.args.output.now c.write_opening.new.output in
    let whole : WritesPart {A = Unit {0}} (scene_text scene r) output (Err e) = part_stops g.O.Sink _ _ _ (scene_items scene 0 [] ++ ending_text (marking scene.mark)) e part in
    trace_stops (IsSceneTrace scene) 1 _ _ e (stop_reads _ e part.stop) (inr (r, tt, scene_text scene r, refl, whole.bytes)) (writer_stops (Unit {0}) (Unit {0}) input output e going.failed part.device part.stop) (stop_alone e part.stop)

pub returns : goal.returns
returns g c =
    let scene = c.args.scene.now in
    let read = c.in-Ok.ensures in
    let pulls = pulled_at_start g.R.Source c.args.reader.now.stage _ _ _ (ap (λ (x : Reader). x.stage) c.requires) read.pulls in
    let start : Recorded = record { head = c.in-Ok.header; events = [] } in
    let going = going_from_fresh g.R.Source Two c.args.reader.now _ _ c.requires c.in-Ok.header _ pulls read.stage start refl in
    let e = c.in-Err-write_rest.error in
    let rest = c.in-Err-write_rest.ensures in
    let r : Recorded = record { head = c.in-Ok.header; events = rest.0 } in
    let opened = c.in-Ok-write_opening.ensures in
    let some = appends_some_after _ _ _ _ (scene_items scene 0 rest.0) (ending_text (marking scene.mark)) opened.bytes rest.1.bytes in
    trace_stops (IsSceneTrace scene) 1 _ _ e (rest.2 c.in-Ok.header _ _ going) (inr (r, tt, scene_text scene r, refl, some))
    (failures_on g.R.Source g.O.Sink c.args.source.now c.read_header.new.source c.write_rest.new.source c.args.output.now c.write_opening.new.output c.write_rest.new.output going.failed opened.device (Unit {0}) e rest.1.failures) rest.1.alone

pub returns-in-Ok-write_rest : goal.returns-in-Ok-write_rest
returns-in-Ok-write_rest g c =
    let scene = c.args.scene.now in
    let read = c.in-Ok.ensures in
    let pulls = pulled_at_start g.R.Source c.args.reader.now.stage _ _ _ (ap (λ (x : Reader). x.stage) c.requires) read.pulls in
    let start : Recorded = record { head = c.in-Ok.header; events = [] } in
    let going = going_from_fresh g.R.Source Two c.args.reader.now _ _ c.requires c.in-Ok.header _ pulls read.stage start refl in
    let rest = c.in-Ok-write_rest.ensures in
    let r : Recorded = record { head = c.in-Ok.header; events = rest.0 } in
    let opened = c.in-Ok-write_opening.ensures in
    let body : WritesPart {A = Unit {0}} (scene_items scene 0 rest.0) (filled g.O.Sink c.write_opening.new.output c.write_rest.new.output) (Ok tt) = record { bytes = rest.1.bytes; device = rest.1.failures.1; stop = tt } in
    let ended = part_then g.O.Sink _ _ _ _ _ tt c.write_ending.result body c.write_ending.ensures in
    let whole = part_then g.O.Sink _ _ _ _ _ tt c.write_ending.result opened ended in
    trace_given (IsSceneTrace scene) 1 _ _ r (rest.2 c.in-Ok.header _ _ going) (rest.1.failures.0 ∙ going.failed) tt (scene_text scene r) refl c.write_ending.result whole (unit_same c.write_ending.result)
