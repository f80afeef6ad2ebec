-- What the program says on standard error where it gives no answer.
use Rattle.std.specs.Prelude.{◌≡◌, ◌⊎◌, ℕ, List, [], ◌++◌, Result, Ok, Err, codes, decimal}
use Rattle.pg_event.specs.declared.refusal.Refusal.TheVariants as refusals
use Rattle.pg_report.specs.declared.error.AuditError.{AuditError}
use Rattle.pg_report.specs.declared.error.AuditError.TheVariants.{Refused, Device, Memory}
use Rattle.pg_report.specs.declared.error.AuditError.TheVariants.{Thread, Checkers}
use Rattle.pg_report.specs.Changes.{Change, Fails, Works, Adds, AddsSome, AddsNothing}
use Rattle.pg_report.specs.Numbers.{rule_number, error_number, error_name}
use Rattle.pg_answers.specs.Reasons.{words_line}
use Rattle.pg_arguments.specs.declared.words.NoWords.{NoWords}
use Rattle.pg_arguments.specs.declared.words.NoWords.TheVariants as unread

-- `pcid-audit: refused 3 header field`
abbrev pub refusal_text : ℕ → List ℕ → List ℕ
refusal_text number name =
    (codes "pcid-audit: refused " ++ decimal number) ++ (codes " " ++ name)

-- ` event 5 rule 2`, after a malformed event
abbrev pub place_text : AuditError → List ℕ
place_text (Refused (refusals.Malformed event rule)) =
    (codes " event " ++ decimal event) ++ (codes " rule " ++ decimal (rule_number rule))
place_text (Refused refusals.Magic) = []
place_text (Refused refusals.Version) = []
place_text (Refused refusals.HeaderField) = []
place_text (Refused refusals.SegmentNumber) = []
place_text (Refused refusals.SegmentCount) = []
place_text (Refused refusals.Tag) = []
place_text (Refused refusals.Truncated) = []
place_text (Refused refusals.Total) = []
place_text (Refused refusals.Trailing) = []
place_text Device = []
place_text Memory = []
place_text Thread = []
place_text Checkers = []

-- the number and the name of why an audit came to no verdict
abbrev pub fixed_line : AuditError → List ℕ
fixed_line error =
    refusal_text (error_number error) (error_name error) ++ (place_text error ++ codes "\n")

-- the lines of an audit that came to no verdict: that line, and what is wrong in words
abbrev pub refusal_line : AuditError → List ℕ
refusal_line error = fixed_line error ++ words_line error

-- `pcid-audit: refused 1 memory`, the line for running out of memory before any input was read
abbrev pub memory_line : List ℕ
memory_line = refusal_text 1 (codes "memory") ++ codes "\n"

-- the lines of a record of version 3 or 4 where its events have to stand in one order
abbrev pub spans_line : List ℕ
spans_line = codes "pcid-audit: refused 2 version\npcid-audit: certify judges records with spans\n"

-- `pcid-audit: can't open a.record`
abbrev pub unopened_line : List ℕ → List ℕ
unopened_line name = codes "pcid-audit: can't open" ++ (codes " " ++ (name ++ codes "\n"))

-- `pcid-audit: can't create a.txt`
abbrev pub uncreated_line : List ℕ → List ℕ
uncreated_line name = codes "pcid-audit: can't create" ++ (codes " " ++ (name ++ codes "\n"))

-- `pcid-audit: input: a.record`
abbrev pub input_line : List ℕ → List ℕ
input_line name = codes "pcid-audit: input:" ++ (codes " " ++ (name ++ codes "\n"))

-- the stream is as it was
abbrev pub StaysSame : Change → Type 0
StaysSame c = AddsNothing c × Works c

-- the text was added, as far as the device let it
abbrev pub Tells : Change → List ℕ → Type 0
Tells c text = (Adds c text × Works c) ⊎ (AddsSome c text × Fails c)

-- an error is told by its line, and nothing is said where there is none
abbrev pub TellsError : {A : Type 0} → Change → Result A AuditError → Type 0
TellsError errors (Ok x) = StaysSame errors
TellsError errors (Err e) = Tells errors (refusal_line e)

-- a word that is no text is told as one, with 64, and running out of memory as that, with 3
abbrev pub TellsNoWords : Change → NoWords → ℕ → Type 0
TellsNoWords errors unread.NoText status =
    Tells errors (codes "error: a word is no UTF-8 text\n") × (status ≡ 64)
TellsNoWords errors unread.Memory status = Tells errors memory_line × (status ≡ 3)
