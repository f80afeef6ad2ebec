-- What a command answers that writes a text of the record that it reads.
use Rattle.std.specs.Prelude.{◌≡◌, ◌≢◌, ◌⊎◌, ℕ, List, Some, Result, Ok, Err, IfSome}
use Rattle.pg_event.specs.declared.version.Version.TheVariants.{Two}
use Rattle.pg_event.specs.Reading.{refusal}
use Rattle.pg_event.specs.Spelling.{Recorded}
use Rattle.pg_report.specs.declared.error.AuditError.{AuditError}
use Rattle.pg_report.specs.declared.error.AuditError.TheVariants.{Refused, Device, Memory}
use Rattle.pg_report.specs.declared.error.AuditError.TheVariants.{Thread, Checkers}
use Rattle.pg_report.specs.Changes.{Change, Adds, AddsSome, AddsNothing}
use Rattle.pg_report.specs.Audits.{SpellsOne, SpellsNone, ReaderFails, WriterFails}
use Rattle.pg_report.specs.Audits.{TellsFailures}
use Rattle.pg_report.specs.Intake.{ReadsRecord, TellsDevice}

module _ {A : Type 0} (IsTextOf : Recorded → A → List ℕ → Type 0) where
  -- the bytes spell one record, this is its text with an answer, and this holds of the text
  abbrev pub HasText : List ℕ → A → (List ℕ → Type 0) → Type 0
  HasText bytes x P =
      (r : Recorded) × SpellsOne bytes r × (text : List ℕ) × IsTextOf r x text × P text

  -- Asked for the text of the record that these bytes spell, the program answers so by so many
  -- checkers, and leaves the writer so: the text was written and nothing else; or the bytes spell
  -- no record, and nothing was written; nor was it if memory ran out, or a thread failed, of which
  -- one checker wants none, nor where the reader failed; where the writer failed a beginning of
  -- the text was.
  abbrev pub GivesText : ℕ → List ℕ → Change → Change → Result A AuditError → Type 0
  GivesText checkers bytes input output (Ok x) = HasText bytes x (Adds output)
  GivesText checkers bytes input output (Err (Refused e)) =
      (refusal bytes ≡ Some e) × SpellsNone bytes × AddsNothing output
  GivesText checkers bytes input output (Err Memory) = AddsNothing output
  GivesText checkers bytes input output (Err Thread) = (checkers ≢ 1) × AddsNothing output
  GivesText checkers bytes input output (Err Checkers) = ⊥
  GivesText checkers bytes input output (Err Device) =
      (ReaderFails input output × AddsNothing output)
      ⊎ (WriterFails input output × (x : A) × HasText bytes x (AddsSome output))

  -- what was written, whatever the reader tells
  abbrev pub HasWrittenText : Change → Change → Result A AuditError → Type 0
  HasWrittenText input output (Ok x) =
      (r : Recorded) × (text : List ℕ) × IsTextOf r x text × Adds output text
  HasWrittenText input output (Err (Refused e)) = AddsNothing output
  HasWrittenText input output (Err Memory) = AddsNothing output
  HasWrittenText input output (Err Thread) = AddsNothing output
  HasWrittenText input output (Err Checkers) = AddsNothing output
  HasWrittenText input output (Err Device) =
      (ReaderFails input output × AddsNothing output)
      ⊎ (WriterFails input output
      × (r : Recorded) × (x : A) × (text : List ℕ) × IsTextOf r x text × AddsSome output text)

  -- all that such a command promises of its answer and its streams, with so many checkers
  pub record IsTextGivenBy (checkers : ℕ) (input output : Change)
      (result : Result A AuditError) : Type 0 where
    pub gives : IfSome input.old.bytes (λ bytes. GivesText checkers bytes input output result)
    pub written : HasWrittenText input output result
    pub failures : TellsFailures input output result

  -- and on one thread
  abbrev pub IsTextGiven : Change → Change → Result A AuditError → Type 0
  IsTextGiven = IsTextGivenBy 1

  -- what is left of that once the record was read, whatever it was read from
  abbrev pub GivesTextOf : ℕ → Recorded → Change → Result A AuditError → Type 0
  GivesTextOf checkers r output result =
      (input : Change) → IfSome input.old.bytes (λ bytes. ReadsRecord Two bytes (Ok r)) →
      TellsDevice {A = Recorded} input (Ok r) → IsTextGivenBy checkers input output result
