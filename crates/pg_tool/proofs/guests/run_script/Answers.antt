use Rattle.std.proofs.Common.{Bool, map, refl, sym, ap, subst, ◌∙◌}
use Rattle.std.proofs.KnownBytes.{Keeps-refl}
use Rattle.pg_event.specs.Spelling.{Recorded}
use Rattle.pg_report.specs.Changes.{drawn, filled}
use Rattle.pg_report.specs.declared.report.Report.{Report}
use Rattle.pg_report.specs.Text.{report_text}
use Rattle.pg_runner.specs.Runs.{record_of}
use Rattle.pg_tool.specs.Guests.{WritesAnswer, output_text}
use Rattle.pg_tool.proofs.Guested.{run_written, run_stops}
use Rattle.pg_tool.proofs.guests.run_script.Goals as goal

pub returns-in-Err-run_by : goal.returns-in-Err-run_by
returns-in-Err-run_by g c =
    let output = filled g.O.Sink c.args.output.now c.args.output.now in
    run_stops c.args.asked.now.single c.args.asked.now.bytes (drawn g.R.Source c.args.input.now c.read_script.new.input) output c.in-Ok.script c.in-Err-run_by.error c.in-Ok.ensures (Keeps-refl output.old.bytes) refl c.in-Err-run_by.ensures.err

pub returns-then-asked : goal.returns-then-asked
returns-then-asked g c =
    let run = c.in-Ok-run_by.run' in
    let single = c.in-Ok-run_by.ensures.ok in
    let r : Recorded = record_of run.trace in
    let input = drawn g.R.Source c.args.input.now c.read_script.new.input in
    let output = filled g.O.Sink c.args.output.now c.write_trace.new.output in
    let P : Bool → Type 0 = λ b. WritesAnswer output (output_text b r) c.write_trace.result in
    run_written c.args.asked.now.single c.args.asked.now.bytes input output c.in-Ok.script r (map (λ own. own.items) run.transcripts.items) c.in-Ok.ensures single.run (ap (λ (x : Report). x.verdict) (sym single.report) ∙ single.yes) c.write_trace.result
    (subst P (sym c.if-asked.true) c.write_trace.ensures)

pub returns : goal.returns
returns g c =
    let run = c.in-Ok-run_by.run' in
    let single = c.in-Ok-run_by.ensures.ok in
    let r : Recorded = record_of run.trace in
    let input = drawn g.R.Source c.args.input.now c.read_script.new.input in
    let output = filled g.O.Sink c.args.output.now c.write_report.new.output in
    let P : Bool → Type 0 = λ b. WritesAnswer output (output_text b r) c.write_report.result in
    let Q : Report → Type 0 = λ report. WritesAnswer output (report_text report) c.write_report.result in
    run_written c.args.asked.now.single c.args.asked.now.bytes input output c.in-Ok.script r (map (λ own. own.items) run.transcripts.items) c.in-Ok.ensures single.run (ap (λ (x : Report). x.verdict) (sym single.report) ∙ single.yes) c.write_report.result
    (subst P (sym c.if-asked.false) (subst Q single.report c.write_report.ensures))
