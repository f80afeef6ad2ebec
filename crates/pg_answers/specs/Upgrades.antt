-- What `upgrade` answers: the version 2 record of a version 1 record's events, and its report.
use Rattle.std.specs.Prelude.{◌≡◌, ℕ, List, Some, Result, Ok, Err, ◌⊎◌, IfSome}
use Rattle.std.specs.Prelude.{string_bytes}
use Rattle.pg_event.specs.declared.version.Version.TheVariants as versions
use Rattle.pg_event.specs.Spelling.{Recorded, record_bytes}
use Rattle.pg_run_of.specs.Law.{HasRun}
use Rattle.pg_report.specs.declared.report.Verdict.TheVariants.{Yes}
use Rattle.pg_report.specs.declared.report.Report.{Report}
use Rattle.pg_report.specs.declared.error.AuditError.{AuditError}
use Rattle.pg_report.specs.declared.error.AuditError.TheVariants.{Refused, Device, Memory}
use Rattle.pg_report.specs.declared.error.AuditError.TheVariants.{Thread, Checkers}
use Rattle.pg_report.specs.Text.{report_of, report_text}
use Rattle.pg_report.specs.Changes.{Change, Fails, Works, Adds, AddsSome, AddsNothing}
use Rattle.pg_report.specs.Audits.{SpellsOne, ReaderFails, WriterFails, TellsFailures}
use Rattle.pg_report.specs.Intake.{refusal_up_to}
use Rattle.pg_answers.specs.declared.shown.ReportText.{ReportText}
use Rattle.pg_answers.specs.Status.{verdict_status, error_status}
use Rattle.pg_answers.specs.Refusals.{refusal_line, Tells}
use Rattle.pg_answers.specs.Streams.{Streams}

-- the record that has version 2, and else the same header and events
abbrev pub upgraded : Recorded → Recorded
upgraded r = record {
  head = record r.head { version = versions.Two };
  events = r.events;
}

-- the bytes spell one record, of version 1, and this holds of the spelling of its upgrade
abbrev pub HasUpgrade : List ℕ → (Recorded → List ℕ → Type 0) → Type 0
HasUpgrade bytes P =
    (r : Recorded) × SpellsOne bytes r × (r.head.version ≡ versions.One)
    × (text : List ℕ) × SpellsOne text (upgraded r) × P (upgraded r) text

-- Of these bytes, the writer is left so and the answer is this report: the one record that they
-- spell is of version 1, the spelling of its upgrade was written and nothing else, and the report
-- is that of the upgrade, which has a run of the manual's machine where its verdict is yes; a
-- refusal is the first of bytes that spell no version 1 record, and nothing was written; nor was it
-- if memory ran out, nor where the reader failed; where the writer failed a beginning of that
-- spelling was.
abbrev pub GivesUpgrade : List ℕ → Change → Change → Result Report AuditError → Type 0
GivesUpgrade bytes input output (Ok report) =
    HasUpgrade bytes (λ r text. Adds output text × (report ≡ report_of r)
    × (report.verdict ≡ Yes → HasRun r.head r.events))
GivesUpgrade bytes input output (Err (Refused e)) =
    (refusal_up_to versions.One bytes ≡ Some e) × AddsNothing output
GivesUpgrade bytes input output (Err Memory) = AddsNothing output
GivesUpgrade bytes input output (Err Thread) = ⊥
GivesUpgrade bytes input output (Err Checkers) = ⊥
GivesUpgrade bytes input output (Err Device) =
    (ReaderFails input output × AddsNothing output)
    ⊎ (WriterFails input output × HasUpgrade bytes (λ r text. AddsSome output text))

-- what was written, whatever the reader tells: the spelling of a record whose report is the answer,
-- a beginning of a spelling where the writer failed, and with any other error nothing
abbrev pub HasWrittenUpgrade : Change → Change → Result Report AuditError → Type 0
HasWrittenUpgrade input output (Ok report) =
    (r : Recorded) × (report ≡ report_of (upgraded r)) × Adds output (record_bytes (upgraded r))
HasWrittenUpgrade input output (Err (Refused e)) = AddsNothing output
HasWrittenUpgrade input output (Err Memory) = AddsNothing output
HasWrittenUpgrade input output (Err Thread) = AddsNothing output
HasWrittenUpgrade input output (Err Checkers) = AddsNothing output
HasWrittenUpgrade input output (Err Device) =
    (ReaderFails input output × AddsNothing output)
    ⊎ (WriterFails input output × (r : Recorded) × AddsSome output (record_bytes (upgraded r)))

-- all that writing an upgrade promises of its answer and its streams
pub record IsUpgrade (input output : Change) (result : Result Report AuditError) : Type 0 where
  pub gives : IfSome input.old.bytes (λ bytes. GivesUpgrade bytes input output result)
  pub written : HasWrittenUpgrade input output result
  pub failures : TellsFailures input output result

-- The report is told on standard error, and the status is its; where standard error fails it is 2.
-- An error is told by its line.
abbrev pub TellsReport : Change → Result Report AuditError → ℕ → Type 0
TellsReport errors (Ok report) status =
    (Adds errors (report_text report) × Works errors × (status ≡ verdict_status report.verdict))
    ⊎ (AddsSome errors (report_text report) × Fails errors × (status ≡ 2))
TellsReport errors (Err e) status = Tells errors (refusal_line e) × (status ≡ error_status e)

-- a report with its text
abbrev pub IsReportText : ReportText → Type 0
IsReportText told = string_bytes told.text ≡ report_text told.report

abbrev pub report_in : Result ReportText AuditError → Result Report AuditError
report_in (Ok told) = Ok told.report
report_in (Err e) = Err e

-- the status and what standard error gets are those of such an answer
abbrev pub Upgrades : Streams → ℕ → Type 0
Upgrades s status =
    (answer : Result Report AuditError) × IsUpgrade s.input s.output answer
    × TellsReport s.errors answer status
