-- Why a record with spans has no answer, as an object on standard error.
use Rattle.std.specs.Prelude.{◌≡◌, ℕ}
use Rattle.pg_answers.specs.Refusals.{StaysSame, Tells}
use Rattle.pg_show_json.specs.Tree.{Json, json_line}
use Rattle.pg_show_json_answers.specs.Refusals.{error_json, malformed_json}
use Rattle.pg_span_answers.specs.declared.reading.Unread.{Unread}
use Rattle.pg_span_answers.specs.declared.reading.Unread.TheVariants.{Refused, Device, Memory}
use Rattle.pg_report.specs.declared.error.AuditError.TheVariants as audits
use Rattle.pg_report.specs.Changes.{Change}
use Rattle.pg_span_run.specs.declared.refusal.SpannedRefusal.{SpannedRefusal}
use Rattle.pg_span_run.specs.declared.refusal.SpannedRefusal.TheVariants.{Plain, Back}

-- as that of a record with one order; the span of an event that begins before the first event
-- breaks rule 7
abbrev pub spanned_json : SpannedRefusal → Json
spanned_json (Plain refusal) = error_json (audits.Refused refusal)
spanned_json (Back event) = malformed_json event 7

-- nothing is written but an object on standard error
abbrev pub Refuses : Json → Change → Change → ℕ → Type 0
Refuses refusal output errors status =
    StaysSame output × Tells errors (json_line refusal) × (status ≡ 2)

-- memory ran out: nothing was written
abbrev pub WantsMemory : Change → Change → ℕ → Type 0
WantsMemory output errors status =
    StaysSame output × Tells errors (json_line (error_json audits.Memory)) × (status ≡ 3)

-- no run was read
abbrev pub TellsUnread : Unread → Change → Change → ℕ → Type 0
TellsUnread (Refused e) output errors status = Refuses (spanned_json e) output errors status
TellsUnread Device output errors status =
    Refuses (error_json audits.Device) output errors status
TellsUnread Memory output errors status = WantsMemory output errors status
