-- What `certify --first` and `check --first` answer: of a record none of whose events is rejected
-- what the command without it answers, and else the no of the events that were read, up to the end
-- of the segment with the first one that is rejected. What follows these was not read, and need not
-- be part of a record.
use Rattle.std.specs.Prelude.{◌≡◌, ◌⊎◌, ℕ, Bool, List, Option, Some, None, Result, Ok, Err, IfSome}
use Rattle.pg_event.specs.declared.version.Version.TheVariants.{Two}
use Rattle.pg_event.specs.Reading.{refusal}
use Rattle.pg_event.specs.Spelling.{Recorded}
use Rattle.pg_event.specs.declared.event.Reason.{Reason}
use Rattle.pg_check.specs.Judging.{Findings, IsJudged}
use Rattle.pg_report.specs.declared.report.Report.{Report}
use Rattle.pg_report.specs.declared.report.Verdict.{Verdict}
use Rattle.pg_report.specs.declared.report.Verdict.TheVariants.{Yes, No}
use Rattle.pg_report.specs.Text.{report_of}
use Rattle.pg_certify.specs.Accounts.{Account, IsAccount}
use Rattle.pg_report.specs.declared.error.AuditError.{AuditError}
use Rattle.pg_report.specs.declared.error.AuditError.TheVariants.{Refused, Device, Memory}
use Rattle.pg_report.specs.declared.error.AuditError.TheVariants.{Thread, Checkers}
use Rattle.pg_report.specs.Audits.{SpellsOne, SpellsNone, ReaderFails, WriterFails}
use Rattle.pg_report.specs.Audits.{TellsFailures}
use Rattle.pg_report.specs.Changes.{Change, Adds, AddsSome, AddsNothing}
use Rattle.pg_report.specs.Going.{IsReading}
use Rattle.pg_report.specs.Intake.{ReadsRecord, TellsDevice}
use Rattle.pg_answers.specs.Refusals.{TellsError}
use Rattle.pg_answers.specs.Streams.{Streams}
use Rattle.pg_answers.specs.declared.answer.Answer.{Answer}
use Rattle.pg_answers.specs.declared.answer.Answer.TheVariants as answers
use Rattle.pg_answers.specs.Answers.{answer_status, denied_in}
use Rattle.pg_answers.specs.Audited.{IsCheckText}
use Rattle.pg_answers.specs.Certificates.{IsCertificateText}
use Rattle.pg_answers.specs.Texts.{HasWrittenText}

-- the bytes begin with this header and these events
pub record Begins (bytes : List ℕ) (r : Recorded) : Type 0 where
  pub number : ℕ
  pub full : Bool
  pub left : List ℕ
  pub reading : IsReading r.head r.events number full bytes left

-- the record that was read: all that the bytes spell, or where an event is denied a beginning
abbrev pub IsReadUpTo : Option ℕ → List ℕ → Recorded → Type 0
IsReadUpTo None bytes r = ReadsRecord Two bytes (Ok r)
IsReadUpTo (Some n) bytes r = Begins bytes r

abbrev pub IsAccountUpTo : Option (List ℕ) → Account → Type 0
IsAccountUpTo left a =
    (r : Recorded) × IsAccount a r.head r.events
    × IfSome left (λ bytes. IsReadUpTo a.findings.denied bytes r)

abbrev pub ReadsUpTo : Option (List ℕ) → Result Account AuditError → Type 0
ReadsUpTo left (Ok a) = IsAccountUpTo left a
ReadsUpTo left (Err e) = IfSome left (λ bytes. ReadsRecord Two bytes (Err e))

-- ---- `check`: what was judged

-- the event that a verdict names, if it is no
abbrev pub event_in : Verdict → Option ℕ
event_in Yes = None
event_in (No event reason) = Some event

abbrev pub number_of : Option (ℕ × Reason) → Option ℕ
number_of None = None
number_of (Some bad) = Some bad.0

abbrev pub IsJudgedUpTo : Option (List ℕ) → Findings → Type 0
IsJudgedUpTo left f =
    (r : Recorded) × IsJudged f r.head r.events
    × IfSome left (λ bytes. IsReadUpTo (number_of f.first_bad) bytes r)

abbrev pub JudgesUpTo : Option (List ℕ) → Result Report AuditError → Type 0
JudgesUpTo left (Ok report) =
    (r : Recorded) × (report ≡ report_of r)
    × IfSome left (λ bytes. IsReadUpTo (event_in report.verdict) bytes r)
JudgesUpTo left (Err e) = IfSome left (λ bytes. ReadsRecord Two bytes (Err e))

-- the event that an answer of `check` names, if it is no
abbrev pub bad_in : Answer → Option ℕ
bad_in (answers.Report report) = event_in report.verdict
bad_in (answers.Summary report s) = None
bad_in (answers.Cause report r x allowed) = None
bad_in (answers.Causes report r xs s) = None
bad_in (answers.Rejection x) = None
bad_in (answers.Events r selection) = None
bad_in (answers.Outcomes x) = None

-- ---- what is written

-- the same, where no other record can be spelled by these bytes
abbrev pub IsOneUpTo : Option ℕ → List ℕ → Recorded → Type 0
IsOneUpTo None bytes r = SpellsOne bytes r
IsOneUpTo (Some n) bytes r = Begins bytes r

module _ (IsTextOf : Recorded → Answer → List ℕ → Type 0) (first : Answer → Option ℕ) where
  -- this was read of the bytes, this is its text with the answer, and this holds of the text
  abbrev pub HasFirst : List ℕ → Answer → (List ℕ → Type 0) → Type 0
  HasFirst bytes x P =
      (r : Recorded) × IsOneUpTo (first x) bytes r × (text : List ℕ) × IsTextOf r x text
      × P text

  -- Asked of these bytes, the program answers so, and leaves the writer so: as `GivesText` of
  -- `Texts` says it of one checker.
  abbrev pub GivesFirst : List ℕ → Change → Change → Result Answer AuditError → Type 0
  GivesFirst bytes input output (Ok x) = HasFirst bytes x (Adds output)
  GivesFirst bytes input output (Err (Refused e)) =
      (refusal bytes ≡ Some e) × SpellsNone bytes × AddsNothing output
  GivesFirst bytes input output (Err Memory) = AddsNothing output
  GivesFirst bytes input output (Err Thread) = ⊥
  GivesFirst bytes input output (Err Checkers) = ⊥
  GivesFirst bytes input output (Err Device) =
      (ReaderFails input output × AddsNothing output)
      ⊎ (WriterFails input output × (x : Answer) × HasFirst bytes x (AddsSome output))

  pub record IsFirstGiven (input output : Change) (result : Result Answer AuditError) : Type 0
    where
      pub gives : IfSome input.old.bytes (λ bytes. GivesFirst bytes input output result)
      pub written : HasWrittenText IsTextOf input output result
      pub failures : TellsFailures input output result

  -- what is left of that once so much of the record was read, whatever it was read from
  abbrev pub GivesFirstOf : Option ℕ → Recorded → Change → Result Answer AuditError → Type 0
  GivesFirstOf event r output result =
      (input : Change) → IfSome input.old.bytes (λ bytes. IsReadUpTo event bytes r) →
      TellsDevice {A = Recorded} input (Ok r) → IsFirstGiven input output result

-- The status is that of such an answer, and the line on standard error is its line.
abbrev pub CertifiesFirst : Streams → ℕ → Type 0
CertifiesFirst s status =
    (answer : Result Answer AuditError) × (status ≡ answer_status answer)
    × IsFirstGiven IsCertificateText denied_in s.input s.output answer × TellsError s.errors answer

abbrev pub ChecksFirst : Streams → ℕ → Type 0
ChecksFirst s status =
    (answer : Result Answer AuditError) × (status ≡ answer_status answer)
    × IsFirstGiven IsCheckText bad_in s.input s.output answer × TellsError s.errors answer
