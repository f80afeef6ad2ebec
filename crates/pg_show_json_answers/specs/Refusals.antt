-- Refusals as JSON, a line on standard error. The fields are
--
--     number, text         those of the line that tells of it without `--json`
--     event, rule          of a malformed event: its number, and the rule that it breaks
use Rattle.std.specs.Prelude.{ℕ, List, Result, Ok, Err, codes}
use Rattle.pg_event.specs.declared.refusal.Refusal.TheVariants as refusals
use Rattle.pg_report.specs.declared.error.AuditError.{AuditError}
use Rattle.pg_report.specs.declared.error.AuditError.TheVariants.{Refused, Device, Memory}
use Rattle.pg_report.specs.declared.error.AuditError.TheVariants.{Thread, Checkers}
use Rattle.pg_report.specs.Changes.{Change}
use Rattle.pg_report.specs.Numbers.{rule_number}
use Rattle.pg_answers.specs.Refusals.{StaysSame, Tells}
use Rattle.pg_show_json.specs.Tree.{Json, count, text, object, Fields, no_fields, field, json_line}

abbrev pub refusal_fields : ℕ → List ℕ → Fields
refusal_fields number told =
    field (codes "number") (count number) (field (codes "text") (text told) no_fields)

abbrev pub refusal_json : ℕ → List ℕ → Json
refusal_json number told = object (refusal_fields number told)

-- where a malformed event is, and which rule it breaks
abbrev pub malformed_json : ℕ → ℕ → Json
malformed_json event rule = object (
    field (codes "event") (count event) (field (codes "rule") (count rule)
    (refusal_fields 7 (codes "malformed"))))

abbrev pub error_json : AuditError → Json
error_json (Refused (refusals.Malformed event rule)) = malformed_json event (rule_number rule)
error_json (Refused refusals.Magic) = refusal_json 1 (codes "magic")
error_json (Refused refusals.Version) = refusal_json 2 (codes "version")
error_json (Refused refusals.HeaderField) = refusal_json 3 (codes "header field")
error_json (Refused refusals.SegmentNumber) = refusal_json 4 (codes "segment number")
error_json (Refused refusals.SegmentCount) = refusal_json 5 (codes "segment count")
error_json (Refused refusals.Tag) = refusal_json 6 (codes "tag")
error_json (Refused refusals.Truncated) = refusal_json 8 (codes "truncated")
error_json (Refused refusals.Total) = refusal_json 9 (codes "total")
error_json (Refused refusals.Trailing) = refusal_json 10 (codes "bytes after the end")
error_json Device = refusal_json 11 (codes "device")
error_json Memory = refusal_json 12 (codes "memory")
error_json Thread = refusal_json 14 (codes "thread")
error_json Checkers = refusal_json 15 (codes "checkers")

-- that of a record with spans where its events have to stand in one order
abbrev pub spans_json : Json
spans_json = refusal_json 2 (codes "version: certify judges records with spans")

-- an error is told by its object, and nothing is said where there is none
abbrev pub TellsJson : {A : Type 0} → Change → Result A AuditError → Type 0
TellsJson errors (Ok x) = StaysSame errors
TellsJson errors (Err e) = Tells errors (json_line (error_json e))
