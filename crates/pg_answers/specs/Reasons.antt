-- What is wrong with a record, in words.
use Rattle.std.specs.Prelude.{ℕ, List, ◌++◌, Option, Some, None, codes, decimal}
use Rattle.pg_event.specs.declared.event.Malformed.{Malformed}
use Rattle.pg_event.specs.declared.event.Malformed.TheVariants.{Processor, WordAddress}
use Rattle.pg_event.specs.declared.event.Malformed.TheVariants.{LinearAddress, Operand, Invpcid}
use Rattle.pg_event.specs.declared.event.Malformed.TheVariants.{Flags}
use Rattle.pg_event.specs.declared.refusal.Refusal.{Refusal}
use Rattle.pg_event.specs.declared.refusal.Refusal.TheVariants as refusals
use Rattle.pg_report.specs.declared.error.AuditError.{AuditError}
use Rattle.pg_report.specs.declared.error.AuditError.TheVariants.{Refused, Device, Memory}
use Rattle.pg_report.specs.declared.error.AuditError.TheVariants.{Thread, Checkers}

-- the rule that an event breaks
abbrev pub rule_words : Malformed → List ℕ
rule_words Processor = codes "its processor is not below the number in the header"
rule_words WordAddress =
    codes "the address of its word is not a multiple of 8, or not below 2^MAXPHYADDR"
rule_words LinearAddress = codes "its linear address is not canonical"
rule_words Operand = codes "bits 62:MAXPHYADDR of its operand for CR3 are not 0"
rule_words Invpcid =
    codes "its INVPCID has a type above 3, a PCID above 4095, or a value in an unused field"
rule_words Flags =
    codes "its flags name no operation, have a reserved bit, or set D for no write"

-- what is wrong with the bytes
abbrev pub bytes_words : Refusal → List ℕ
bytes_words refusals.Magic = codes "a record begins with the eight bytes PGRECORD"
bytes_words refusals.Version = codes "this command does not read records of this version"
bytes_words refusals.HeaderField = codes "a field of the header is out of its bounds"
bytes_words refusals.SegmentNumber = codes "a segment does not have the next number"
bytes_words refusals.SegmentCount =
    codes "a segment's count of events is 0 or too large, or the segment before it is not full"
bytes_words refusals.Tag =
    codes "a tag, a PGE byte or a count of moments is none that the format has"
bytes_words (refusals.Malformed event rule) = rule_words rule
bytes_words refusals.Truncated = codes "the input ends within a field, or before the end mark"
bytes_words refusals.Total = codes "the end mark does not have the number of events"
bytes_words refusals.Trailing = codes "bytes follow the end mark"

abbrev pub error_words : AuditError → List ℕ
error_words (Refused refusal) = bytes_words refusal
error_words Device = codes "a read or a write failed"
error_words Memory = codes "memory ran out"
error_words Thread = codes "a thread could not be created"
error_words Checkers = codes "the number of checkers is not 1 to 64"

-- the event that breaks a rule
abbrev pub event_of : AuditError → Option ℕ
event_of (Refused (refusals.Malformed event rule)) = Some event
event_of (Refused refusals.Magic) = None
event_of (Refused refusals.Version) = None
event_of (Refused refusals.HeaderField) = None
event_of (Refused refusals.SegmentNumber) = None
event_of (Refused refusals.SegmentCount) = None
event_of (Refused refusals.Tag) = None
event_of (Refused refusals.Truncated) = None
event_of (Refused refusals.Total) = None
event_of (Refused refusals.Trailing) = None
event_of Device = None
event_of Memory = None
event_of Thread = None
event_of Checkers = None

-- `pcid-audit: event 5:`, where it is known of which event is told
abbrev pub subject_text : Option ℕ → List ℕ
subject_text None = codes "pcid-audit:"
subject_text (Some event) = (codes "pcid-audit: event " ++ decimal event) ++ codes ":"

-- `pcid-audit: event 5: its linear address is not canonical`
abbrev pub words_line : AuditError → List ℕ
words_line error =
    subject_text (event_of error) ++ (codes " " ++ (error_words error ++ codes "\n"))
