-- What an audit answers of the bytes that a reader had left, and what it leaves.
use Rattle.std.specs.Prelude.{◌≡◌, ℕ, List, Result, Ok, Err, Some, IfSome, ◌⊎◌}
use Rattle.pg_event.specs.Spelling.{Recorded, Spells}
use Rattle.pg_event.specs.Reading.{refusal}
use Rattle.pg_run_of.specs.Law.{HasRun}
use Rattle.pg_report.specs.declared.report.Verdict.{Verdict}
use Rattle.pg_report.specs.declared.report.Verdict.TheVariants.{Yes, No}
use Rattle.pg_report.specs.declared.report.Report.{Report}
use Rattle.pg_report.specs.declared.error.AuditError.{AuditError}
use Rattle.pg_report.specs.declared.error.AuditError.TheVariants as errors
use Rattle.pg_report.specs.Changes.{Change, Fails, Works, Adds, AddsSome, AddsNothing}
use Rattle.pg_report.specs.Text.{report_of, report_text}

-- the bytes spell this record, and no other
abbrev pub SpellsOne : List ℕ → Recorded → Type 0
SpellsOne bytes r = Spells bytes r × ((s : Recorded) → Spells bytes s → s ≡ r)

abbrev pub SpellsNone : List ℕ → Type 0
SpellsNone bytes = (r : Recorded) → Spells bytes r → ⊥

-- the reader failed in the call, and the writer did not
abbrev pub ReaderFails : Change → Change → Type 0
ReaderFails input output = Fails input × Works output

abbrev pub WriterFails : Change → Change → Type 0
WriterFails input output = Works input × Fails output

abbrev pub NoneFails : Change → Change → Type 0
NoneFails input output = Works input × Works output

-- what writing a text leaves: the text, a beginning of it where the device failed, and else nothing
abbrev pub WritesText : Change → List ℕ → {A : Type 0} → Result A AuditError → Type 0
WritesText output text (Ok x) = Adds output text
WritesText output text (Err errors.Device) = AddsSome output text
WritesText output text (Err errors.Memory) = AddsNothing output
WritesText output text (Err (errors.Refused e)) = ⊥
WritesText output text (Err errors.Thread) = ⊥
WritesText output text (Err errors.Checkers) = ⊥

-- The audit gives this answer for these bytes, and leaves the writer so. A verdict is that of the
-- one record that the bytes spell, and the text of its report was written and nothing else; if it
-- is yes, some run of the manual's machine has exactly the record's events in that order. A refusal
-- is the first of the bytes, which spell no record. Nothing was written then, nor if memory ran out
-- or a thread could not be created, nor for a number of checkers that is none of 1 to 64, nor if
-- the reader failed. If the writer failed, a beginning of the report was written.
abbrev pub Audits : List ℕ → Change → Change → Result Verdict AuditError → Type 0
Audits bytes input output (Ok verdict) =
    (r : Recorded) × SpellsOne bytes r × (verdict ≡ (report_of r).verdict)
    × Adds output (report_text (report_of r)) × (verdict ≡ Yes → HasRun r.head r.events)
Audits bytes input output (Err (errors.Refused e)) =
    (refusal bytes ≡ Some e) × SpellsNone bytes × AddsNothing output
Audits bytes input output (Err errors.Memory) = AddsNothing output
Audits bytes input output (Err errors.Thread) = AddsNothing output
Audits bytes input output (Err errors.Checkers) = AddsNothing output
Audits bytes input output (Err errors.Device) =
    (ReaderFails input output × AddsNothing output)
    ⊎ (WriterFails input output
    × (r : Recorded) × SpellsOne bytes r × AddsSome output (report_text (report_of r)))

-- Where the answer is yes, the bytes spell one record, and some run of the manual's machine has
-- exactly its events in that order.
abbrev pub MeansRun : List ℕ → Result Verdict AuditError → Type 0
MeansRun bytes (Ok Yes) = (r : Recorded) × SpellsOne bytes r × HasRun r.head r.events
MeansRun bytes (Ok (No event reason)) = Unit {0}
MeansRun bytes (Err e) = Unit {0}

-- The verdict is a function of the record, and so is what was written: any audit of the same bytes
-- that comes to a verdict, by however many checkers, comes to this one, and writes this text.
abbrev pub IsTheVerdict : List ℕ → Change → Result Verdict AuditError → Type 0
IsTheVerdict bytes output (Ok verdict) =
    (text : List ℕ) × Adds output text × ((other : Verdict) (input' output' : Change) →
    Audits bytes input' output' (Ok other) → (other ≡ verdict) × Adds output' text)
IsTheVerdict bytes output (Err e) = Unit {0}

-- What was written, whatever the reader tells: with a verdict the text of a report that has it;
-- where the writer failed a beginning of such a text; and with any other error nothing.
abbrev pub HasWritten : Change → Change → Result Verdict AuditError → Type 0
HasWritten input output (Ok verdict) =
    (report : Report) × (report.verdict ≡ verdict) × Adds output (report_text report)
HasWritten input output (Err (errors.Refused e)) = AddsNothing output
HasWritten input output (Err errors.Memory) = AddsNothing output
HasWritten input output (Err errors.Thread) = AddsNothing output
HasWritten input output (Err errors.Checkers) = AddsNothing output
HasWritten input output (Err errors.Device) =
    (ReaderFails input output × AddsNothing output)
    ⊎ (WriterFails input output × (report : Report) × AddsSome output (report_text report))

-- an I/O error is answered exactly where the failures of the reader or of the writer rose
abbrev pub TellsFailures : {A : Type 0} → Change → Change → Result A AuditError → Type 0
TellsFailures input output (Ok x) = NoneFails input output
TellsFailures input output (Err errors.Device) =
    ReaderFails input output ⊎ WriterFails input output
TellsFailures input output (Err errors.Memory) = NoneFails input output
TellsFailures input output (Err errors.Thread) = NoneFails input output
TellsFailures input output (Err errors.Checkers) = NoneFails input output
TellsFailures input output (Err (errors.Refused e)) = NoneFails input output

-- all that an audit promises of its answer and its streams
pub record IsAudit (input output : Change) (result : Result Verdict AuditError) : Type 0 where
  pub report : IfSome input.old.bytes (λ bytes. Audits bytes input output result)
  pub yes : IfSome input.old.bytes (λ bytes. MeansRun bytes result)
  pub only : IfSome input.old.bytes (λ bytes. IsTheVerdict bytes output result)
  pub written : HasWritten input output result
  pub failures : TellsFailures input output result
