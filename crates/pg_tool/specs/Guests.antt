-- What a run of a guest script comes to, and what the program says of it.
use Rattle.std.specs.Prelude.{◌≡◌, ◌⊎◌, ℕ, ◌+◌, ◌^◌, ◌≤◌, Bool, true, false, if◌then◌else◌}
use Rattle.std.specs.Prelude.{List, ◌++◌, length, map, Result, Ok, Err, codes, decimal}
use Rattle.std.specs.Io.KnownBytes.{Consumes, IsAtEnd}
use Rattle.pg_codec.specs.Streams.{FailsWithDevice}
use Rattle.pg_event.specs.Spelling.{Recorded, record_bytes}
use Rattle.pg_guest.specs.Reading.{Scripted, reading}
use Rattle.pg_guest.specs.Refusals.{IsRefused, is_memory, number_of, name_of}
use Rattle.pg_world.specs.declared.receipt.Receipt.{Receipt}
use Rattle.pg_report.specs.declared.error.AuditError.TheVariants as audits
use Rattle.pg_report.specs.declared.report.Verdict.TheVariants.{Yes}
use Rattle.pg_report.specs.Audits.{NoneFails, ReaderFails, WriterFails}
use Rattle.pg_report.specs.Changes.{Change, Adds, AddsSome, AddsNothing, Fails, Works}
use Rattle.pg_report.specs.Text.{report_of, report_text}
use Rattle.pg_runner.specs.declared.error.RunError.{RunError}
use Rattle.pg_runner.specs.declared.error.RunError.TheVariants as runs
use Rattle.pg_runner.specs.Errors.{error_number, error_name}
use Rattle.pg_runner.specs.Lines.{CarriesOutLines}
use Rattle.pg_runner.specs.declared.result.RunResult.{RunResult}
use Rattle.pg_runner.specs.Runs.{IsRunOfScript, record_of}
use Rattle.pg_tool.specs.declared.guest_error.GuestError.{GuestError}
use Rattle.pg_tool.specs.declared.guest_error.GuestError.TheVariants.{TooLong, Script, Run, Device}
use Rattle.pg_answers.specs.Refusals.{StaysSame, Tells, refusal_text, refusal_line}
use Rattle.pg_answers.specs.Streams.{Streams}

-- a script has at most so many bytes
abbrev pub most_bytes : ℕ
most_bytes = 2 ^ 27

-- ---- what is told of an error

-- `pcid-audit: script line 5 refused 6 number`
abbrev pub script_line : ℕ → ℕ → List ℕ → List ℕ
script_line line number name =
    (codes "pcid-audit: script line " ++ decimal line)
    ++ ((codes " refused " ++ decimal number) ++ (codes " " ++ (name ++ codes "\n")))

abbrev pub guest_line : GuestError → List ℕ
guest_line TooLong = script_line 0 11 (codes "too long")
guest_line (Script e) = script_line e.line (number_of e.refusal) (name_of e.refusal)
guest_line (Run e) = refusal_text (error_number e) (error_name e) ++ codes "\n"
guest_line Device = refusal_line audits.Device

abbrev pub run_error_status : RunError → ℕ
run_error_status runs.Memory = 3
run_error_status runs.Thread = 3
run_error_status runs.Checkers = 64

abbrev pub guest_error_status : GuestError → ℕ
guest_error_status TooLong = 2
guest_error_status (Script e) = if is_memory e.refusal then 3 else 2
guest_error_status (Run e) = run_error_status e
guest_error_status Device = 2

-- ---- what is taken in

-- of what was taken in, at most one byte more than a script may have, the answer is so: it is a
-- script and the input has ended; there are too many bytes; it is no script; or memory was refused,
-- or the device failed
abbrev pub Takes : List ℕ → Type 0 → Result Scripted GuestError → Type 0
Takes bytes AtEnd (Ok script) = AtEnd × (reading bytes ≡ Ok script)
Takes bytes AtEnd (Err TooLong) = length bytes ≡ most_bytes + 1
Takes bytes AtEnd (Err (Script e)) = AtEnd × IsRefused bytes e
Takes bytes AtEnd (Err (Run e)) = e ≡ runs.Memory
Takes bytes AtEnd (Err Device) = Unit {0}

abbrev pub is_device : GuestError → Bool
is_device TooLong = false
is_device (Script e) = false
is_device (Run e) = false
is_device Device = true

pub record TakesScript (input : Change) (result : Result Scripted GuestError) : Type 0 where
  pub bytes : List ℕ
  pub taken : Consumes input.old.bytes input.new.bytes bytes
  pub most : length bytes ≤ most_bytes + 1
  pub takes : Takes bytes (IsAtEnd input.new.bytes) result
  pub device : FailsWithDevice is_device input.old.failures input.new.failures result

-- ---- what a run writes

-- the record, or its report
abbrev pub output_text : Bool → Recorded → List ℕ
output_text true r = record_bytes r
output_text false r = report_text (report_of r)

-- what writing an answer leaves: its text, a beginning of it where the device failed, and nothing
-- where memory was refused
abbrev pub WritesAnswer : Change → List ℕ → Result (Unit {0}) GuestError → Type 0
WritesAnswer output text (Ok done) = Adds output text × Works output
WritesAnswer output text (Err Device) = AddsSome output text × Fails output
WritesAnswer output text (Err (Run e)) = (e ≡ runs.Memory) × StaysSame output
WritesAnswer output text (Err TooLong) = ⊥
WritesAnswer output text (Err (Script e)) = ⊥

-- a run of the script in which all instructions are carried out: by one thread, its lines in their
-- order; or in any order
abbrev pub IsRunBy : Bool → Scripted → Recorded → List (List Receipt) → Type 0
IsRunBy true = CarriesOutLines
IsRunBy false = IsRunOfScript

-- this is what such a run came to, whose report is a yes
pub record IsResultBy (single : Bool) (script : Scripted) (result : RunResult) : Type 0 where
  pub run : IsRunBy single script (record_of result.trace)
      (map (λ own. own.items) result.transcripts.items)
  pub report : result.report ≡ report_of (record_of result.trace)
  pub yes : result.report.verdict ≡ Yes

-- why it came to nothing: memory is refused, or a thread where there is one for each processor
abbrev pub StopsBy : Bool → RunError → Type 0
StopsBy single runs.Memory = Unit {0}
StopsBy single runs.Thread = single ≡ false
StopsBy single runs.Checkers = ⊥

-- these bytes are a script, and this holds of the record of a run of it, whose report is a yes
pub record HasRunOf (single : Bool) (bytes : List ℕ) (P : Recorded → Type 0) : Type 0 where
  pub script : Scripted
  pub said : reading bytes ≡ Ok script
  pub r : Recorded
  pub receipts : List (List Receipt)
  pub runs : IsRunBy single script r receipts
  pub yes : (report_of r).verdict ≡ Yes
  pub holds : P r

-- Where these bytes were taken in, and the input is at its end or not, the program answers so and
-- leaves the writer so: there is a run, and its record or its report was written, and nothing else;
-- there are too many bytes, or they are no script, or the run came to nothing, and nothing was
-- written; nor was it where the reader failed; where the writer failed a beginning of that text
-- was.
module _ (single as_bytes : Bool) (bytes : List ℕ) (AtEnd : Type 0) (input output : Change) where
  abbrev pub Gives : Result (Unit {0}) GuestError → Type 0
  Gives (Ok done) =
      AtEnd × HasRunOf single bytes (λ r. Adds output (output_text as_bytes r))
      × NoneFails input output
  Gives (Err TooLong) =
      (length bytes ≡ most_bytes + 1) × AddsNothing output × NoneFails input output
  Gives (Err (Script e)) =
      AtEnd × IsRefused bytes e × AddsNothing output × NoneFails input output
  Gives (Err (Run runs.Memory)) = AddsNothing output × NoneFails input output
  Gives (Err (Run runs.Thread)) =
      (single ≡ false) × AddsNothing output × NoneFails input output
  Gives (Err (Run runs.Checkers)) = ⊥
  Gives (Err Device) =
      (ReaderFails input output × AddsNothing output)
      ⊎ (WriterFails input output × AtEnd
      × HasRunOf single bytes (λ r. AddsSome output (output_text as_bytes r)))

-- at most one byte more than a script may have was taken in, and of what was it is so
pub record IsGuestRun (single as_bytes : Bool) (input output : Change)
    (answer : Result (Unit {0}) GuestError) : Type 0 where
  pub bytes : List ℕ
  pub taken : Consumes input.old.bytes input.new.bytes bytes
  pub most : length bytes ≤ most_bytes + 1
  pub gives : Gives single as_bytes bytes (IsAtEnd input.new.bytes) input output answer

-- 0 where there is a run, and else the error's line and status
abbrev pub TellsGuest : Change → Result (Unit {0}) GuestError → ℕ → Type 0
TellsGuest errors (Ok done) status = StaysSame errors × (status ≡ 0)
TellsGuest errors (Err e) status =
    Tells errors (guest_line e) × (status ≡ guest_error_status e)

-- the status and what standard error gets are those of such an answer
abbrev pub RunsGuest : Bool → Bool → Streams → ℕ → Type 0
RunsGuest single as_bytes s status =
    (answer : Result (Unit {0}) GuestError)
    × IsGuestRun single as_bytes s.input s.output answer × TellsGuest s.errors answer status
