-- What `merge` answers of logs of single processors.
use Rattle.std.specs.Prelude.{◌≡◌, ◌⊎◌, ℕ, List, [], ◌∷◌, ◌++◌, Option, Some, None, IfSome}
use Rattle.std.specs.Prelude.{slice_get, take, Bool, true, false, Result, Ok, Err, codes, decimal}
use Rattle.std.specs.Prelude.{unwrap_or}
use Rattle.pg_span_run.specs.declared.log_error.LogRefusal.{LogRefusal}
use Rattle.pg_span_run.specs.declared.log_error.LogRefusal.TheVariants.{Field, Stamps, Processor}
use Rattle.pg_span_run.specs.declared.log_error.MergeError.{MergeError}
use Rattle.pg_span_run.specs.declared.log_error.MergeError.TheVariants as merging
use Rattle.pg_span_run.specs.declared.log_error.Setting.TheVariants as settings
use Rattle.pg_span_run.specs.Logs.{Logged}
use Rattle.pg_span_run.specs.Merged.{IsMerged}
use Rattle.pg_span_run.specs.LogNumbers.{merge_error_number}
use Rattle.pg_span_run.specs.LogReading.{log_reading}
use Rattle.pg_span_run.specs.Runs.{AreOfOneRun, Explains}
use Rattle.pg_report.specs.declared.error.AuditError.TheVariants as audits
use Rattle.pg_report.specs.Changes.{Change, Fails}
use Rattle.pg_report.specs.Numbers.{error_number, error_name}
use Rattle.pg_span_run.specs.Orders.{Spanned}
use Rattle.pg_span_run.specs.Reading.{spanned_reading}
use Rattle.pg_span_run.specs.Spelling.{spanned_bytes, SpellsSpanned}
use Rattle.pg_answers.specs.Refusals.{StaysSame, Tells, refusal_line, refusal_text, place_text}
use Rattle.pg_answers.specs.Refusals.{unopened_line}
use Rattle.pg_span_answers.specs.declared.logs.Stop.{Stop}
use Rattle.pg_span_answers.specs.declared.logs.Stop.TheVariants as stops
use Rattle.pg_span_answers.specs.declared.logs.Untaken.{Untaken}
use Rattle.pg_span_answers.specs.declared.logs.Untaken.TheVariants.{Unopened, Refused}
use Rattle.pg_span_answers.specs.declared.logs.Untaken.TheVariants.{Device, Memory}
use Rattle.pg_span_answers.specs.Answers.{GivesOut, WantsMemory}
use Rattle.pg_span_answers.specs.Openings.{Opening}

-- ---- the lines of refusals

-- `pcid-audit: refused 7 malformed event 5 rule 2`, `pcid-audit: refused 16 stamps event 5`
abbrev pub log_refusal_text : LogRefusal → List ℕ
log_refusal_text (Field refusal) =
    refusal_text (error_number (audits.Refused refusal)) (error_name (audits.Refused refusal))
    ++ place_text (audits.Refused refusal)
log_refusal_text (Stamps event) =
    codes "pcid-audit: refused 16 stamps event " ++ decimal event
log_refusal_text (Processor event) =
    codes "pcid-audit: refused 17 other processor event " ++ decimal event

-- the name of the log that is told of
abbrev pub in_file : List ℕ → List ℕ
in_file name = codes " in" ++ (codes " " ++ (name ++ codes "\n"))

abbrev pub log_line : List ℕ → LogRefusal → List ℕ
log_line name refusal = log_refusal_text refusal ++ in_file name

-- the name at a place
abbrev pub name_at : List (List ℕ) → ℕ → List ℕ
name_at names place = unwrap_or (slice_get names place) []

abbrev pub merge_name : MergeError → List ℕ
merge_name merging.NoLogs = codes "no log"
merge_name (merging.Differs log settings.Version) = codes "other version"
merge_name (merging.Differs log settings.Maxphyaddr) = codes "other MAXPHYADDR"
merge_name (merging.Differs log settings.Flags) = codes "other flags"
merge_name (merging.Differs log settings.Processors) = codes "other number of processors"
merge_name (merging.Twice first second) = codes "two logs of one processor"
merge_name (merging.Missing processor) = codes "no log of a processor"
merge_name merging.TooMany = codes "too many events"
merge_name merging.Memory = codes "memory"

-- `pcid-audit: refused 19 other flags`
abbrev pub merge_line : MergeError → List ℕ
merge_line e = refusal_text (merge_error_number e) (merge_name e) ++ codes "\n"

-- ---- reading and merging

-- a log was not taken since its device failed
abbrev pub is_device : Untaken → Bool
is_device Unopened = false
is_device (Refused e) = false
is_device Device = true
is_device Memory = false

-- bytes, where they are known, are a log, or this is their first refusal
abbrev pub ReadsLog : Option (List ℕ) → Result Logged Untaken → Type 0
ReadsLog bytes (Ok log) = IfSome bytes (λ b. log_reading b ≡ Ok log)
ReadsLog bytes (Err (Refused e)) = IfSome bytes (λ b. log_reading b ≡ Err e)
ReadsLog bytes (Err Unopened) = ⊥
ReadsLog bytes (Err Device) = Unit {0}
ReadsLog bytes (Err Memory) = Unit {0}

-- the file of a name, where its bytes are known, is this log
abbrev pub IsLogOf : Opening → List ℕ → Logged → Type 0
IsLogOf Opens name log =
    (file : Change) × Opens name (Some file) × IfSome file.old.bytes (λ b. log_reading b ≡ Ok log)

-- those of names are these logs
abbrev pub AreLogsOf : Opening → List (List ℕ) → List Logged → Type 0
AreLogsOf Opens [] [] = Unit {0}
AreLogsOf Opens [] (log ∷ logs) = ⊥
AreLogsOf Opens (name ∷ names) [] = ⊥
AreLogsOf Opens (name ∷ names) (log ∷ logs) =
    IsLogOf Opens name log × AreLogsOf Opens names logs

-- why the file of a name was not taken
abbrev pub IsUntaken : Opening → List ℕ → Untaken → Type 0
IsUntaken Opens name Unopened = Opens name None
IsUntaken Opens name (Refused e) =
    (file : Change) × Opens name (Some file) × IfSome file.old.bytes (λ b. log_reading b ≡ Err e)
IsUntaken Opens name Device = (file : Change) × Opens name (Some file) × Fails file
IsUntaken Opens name Memory = Unit {0}

-- the name at a place is of a file that was not taken, and the files of those before it were
abbrev pub IsUntakenAt : Opening → List (List ℕ) → ℕ → Untaken → Type 0
IsUntakenAt Opens names place why =
    (name : List ℕ) × (slice_get names place ≡ Some name) × IsUntaken Opens name why
    × (logs : List Logged) × AreLogsOf Opens (take place names) logs

-- the logs of names were taken, or the first was not that is told of
abbrev pub TakesLogs : Opening → List (List ℕ) → Result (List Logged) Stop → Type 0
TakesLogs Opens names (Ok logs) = AreLogsOf Opens names logs
TakesLogs Opens names (Err (stops.At place why)) = IsUntakenAt Opens names place why
TakesLogs Opens names (Err stops.Memory) = Unit {0}

-- the line of that, and the status; nothing else is written
abbrev pub TellsUntaken : List ℕ → Untaken → Change → Change → ℕ → Type 0
TellsUntaken name Unopened output errors status =
    StaysSame output × Tells errors (unopened_line name) × (status ≡ 66)
TellsUntaken name (Refused e) output errors status =
    StaysSame output × Tells errors (log_line name e) × (status ≡ 2)
TellsUntaken name Device output errors status =
    StaysSame output × Tells errors (refusal_line audits.Device) × (status ≡ 2)
TellsUntaken name Memory output errors status = WantsMemory output errors status

abbrev pub merge_status : MergeError → ℕ
merge_status merging.NoLogs = 2
merge_status (merging.Differs log setting) = 2
merge_status (merging.Twice first second) = 2
merge_status (merging.Missing processor) = 2
merge_status merging.TooMany = 2
merge_status merging.Memory = 3

-- a file was not taken, and it is told why
abbrev pub StopsAt : Opening → List (List ℕ) → Change → Change → ℕ → Type 0
StopsAt Opens names output errors status = (place : ℕ) × (why : Untaken)
    × IsUntakenAt Opens names place why
    × TellsUntaken (name_at names place) why output errors status

-- the logs make no run, and it is told why
abbrev pub RefusesLogs : List Logged → Change → Change → ℕ → Type 0
RefusesLogs logs output errors status = (e : MergeError) × Explains logs e
    × StaysSame output × Tells errors (merge_line e) × (status ≡ merge_status e)

-- the record of a run is written, or memory ran out
abbrev pub GivesRun : Spanned → Change → Change → ℕ → Type 0
GivesRun s output errors status =
    GivesOut (spanned_bytes s) 0 output errors status ⊎ WantsMemory output errors status

-- what is answered of logs that were read: the record of the run that they make, whose bytes spell
-- it, so that reading them gives it
abbrev pub AnswersLogs : List Logged → ℕ → Change → Change → ℕ → Type 0
AnswersLogs logs error output errors status =
    ((s : Spanned) × AreOfOneRun logs s.head × IsMerged logs error s
    × SpellsSpanned (spanned_bytes s) s × (spanned_reading (spanned_bytes s) ≡ Ok s)
    × GivesRun s output errors status)
    ⊎ RefusesLogs logs output errors status

-- all that is promised of merging the logs of these names, whose spans are longer on both sides by
-- so many ticks
abbrev pub Merges : Opening → List (List ℕ) → ℕ → Change → Change → ℕ → Type 0
Merges Opens names error output errors status =
    ((logs : List Logged) × AreLogsOf Opens names logs
    × AnswersLogs logs error output errors status)
    ⊎ StopsAt Opens names output errors status ⊎ WantsMemory output errors status
