-- The numbers and names of refusals, and of the rules that events keep.
use Rattle.std.specs.Prelude.{ℕ, List, codes}
use Rattle.pg_event.specs.declared.event.Malformed.{Malformed}
use Rattle.pg_event.specs.declared.event.Malformed.TheVariants.{Processor, WordAddress}
use Rattle.pg_event.specs.declared.event.Malformed.TheVariants.{LinearAddress, Operand, Invpcid}
use Rattle.pg_event.specs.declared.event.Malformed.TheVariants.{Flags}
use Rattle.pg_event.specs.declared.refusal.Refusal.{Refusal}
use Rattle.pg_event.specs.declared.refusal.Refusal.TheVariants.{Magic, Version, HeaderField}
use Rattle.pg_event.specs.declared.refusal.Refusal.TheVariants.{SegmentNumber, SegmentCount, Tag}
use Rattle.pg_event.specs.declared.refusal.Refusal.TheVariants.{Truncated, Total, Trailing}
use Rattle.pg_event.specs.declared.refusal.Refusal.TheVariants as refusals
use Rattle.pg_codec.specs.Errors.{refusal_number}
use Rattle.pg_report.specs.declared.error.AuditError.{AuditError}
use Rattle.pg_report.specs.declared.error.AuditError.TheVariants as errors

abbrev pub refusal_name : Refusal → List ℕ
refusal_name Magic = codes "magic"
refusal_name Version = codes "version"
refusal_name HeaderField = codes "header field"
refusal_name SegmentNumber = codes "segment number"
refusal_name SegmentCount = codes "segment count"
refusal_name Tag = codes "tag"
refusal_name (refusals.Malformed event rule) = codes "malformed"
refusal_name Truncated = codes "truncated"
refusal_name Total = codes "total"
refusal_name Trailing = codes "bytes after the end"

abbrev pub rule_number : Malformed → ℕ
rule_number Processor = 1
rule_number WordAddress = 2
rule_number LinearAddress = 3
rule_number Operand = 4
rule_number Invpcid = 5
rule_number Flags = 6

abbrev pub error_number : AuditError → ℕ
error_number (errors.Refused refusal) = refusal_number refusal
error_number errors.Device = 11
error_number errors.Memory = 12
error_number errors.Thread = 14
error_number errors.Checkers = 15

abbrev pub error_name : AuditError → List ℕ
error_name (errors.Refused refusal) = refusal_name refusal
error_name errors.Device = codes "device"
error_name errors.Memory = codes "memory"
error_name errors.Thread = codes "thread"
error_name errors.Checkers = codes "checkers"
