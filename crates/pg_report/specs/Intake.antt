-- What reading a whole record answers.
use Rattle.std.specs.Prelude.{◌≡◌, List, ℕ, Bool, true, false, if◌then◌else◌}
use Rattle.std.specs.Prelude.{Result, Ok, Err, Option, Some}
use Rattle.pg_event.specs.declared.refusal.Refusal.{Refusal}
use Rattle.pg_event.specs.declared.refusal.Refusal.TheVariants as refusals
use Rattle.pg_event.specs.declared.version.Version.{Version}
use Rattle.pg_event.specs.declared.version.Version.TheVariants as versions
use Rattle.pg_event.specs.Spelling.{Recorded, Spells}
use Rattle.pg_event.specs.Heads.{Head}
use Rattle.pg_event.specs.Reading.{Part, header_at, refusal}
use Rattle.pg_codec.specs.declared.error.ReadError.{ReadError}
use Rattle.pg_codec.specs.declared.error.ReadError.TheVariants as reads
use Rattle.pg_codec.specs.Parts.{version_said, is_two, old_header_at}
use Rattle.pg_codec.specs.Streams.{FailsWithDevice}
use Rattle.pg_report.specs.declared.error.AuditError.{AuditError}
use Rattle.pg_report.specs.declared.error.AuditError.TheVariants as errors
use Rattle.pg_report.specs.Changes.{Change}

-- an error of a reader, as an audit gives it. A reader that refused before is not asked
abbrev pub IsErrorOf : ReadError → AuditError → Type 0
IsErrorOf (reads.Refused e) error = error ≡ errors.Refused e
IsErrorOf reads.Device error = error ≡ errors.Device
IsErrorOf reads.Memory error = error ≡ errors.Memory
IsErrorOf reads.Failed error = ⊥

-- whether bytes say a version above the newest that is read
abbrev pub is_too_new : Version → List ℕ → Bool
is_too_new versions.One bytes = is_two (version_said bytes)
is_too_new versions.Two bytes = false

-- a header of a version up to this
abbrev pub header_up_to : Version → List ℕ → Part Head
header_up_to versions.One bytes = old_header_at bytes
header_up_to versions.Two bytes = header_at bytes

-- the first refusal of bytes that spell no record of a version up to this: a newer one is refused
-- at its version field, whatever follows
abbrev pub refusal_up_to : Version → List ℕ → Option Refusal
refusal_up_to newest bytes =
    if is_too_new newest bytes then Some refusals.Version else refusal bytes

-- what was read is spelled by the bytes, all of them, and not too new; a refusal is their first
abbrev pub ReadsRecord : Version → List ℕ → Result Recorded AuditError → Type 0
ReadsRecord newest bytes (Ok r) = Spells bytes r × (is_too_new newest bytes ≡ false)
ReadsRecord newest bytes (Err (errors.Refused e)) = refusal_up_to newest bytes ≡ Some e
ReadsRecord newest bytes (Err errors.Device) = Unit {0}
ReadsRecord newest bytes (Err errors.Memory) = Unit {0}
ReadsRecord newest bytes (Err errors.Thread) = ⊥
ReadsRecord newest bytes (Err errors.Checkers) = ⊥

abbrev pub is_device : AuditError → Bool
is_device (errors.Refused e) = false
is_device errors.Device = true
is_device errors.Memory = false
is_device errors.Thread = false
is_device errors.Checkers = false

-- the device failed in a call that answers so, and in no other
abbrev pub TellsDevice : {A : Type 0} → Change → Result A AuditError → Type 0
TellsDevice c result = FailsWithDevice is_device c.old.failures c.new.failures result
