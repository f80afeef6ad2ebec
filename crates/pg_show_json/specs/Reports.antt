-- Reports as JSON. The fields are
--
--     verdict              yes, no or undecided
--     event                the event of a no, or at which a search gave up
--     reason, reason_name  of a no: the reason's number, and its name
--     events, segments     how many
use Rattle.std.specs.Prelude.{ℕ, List, codes}
use Rattle.pg_report.specs.declared.report.Verdict.{Verdict}
use Rattle.pg_report.specs.declared.report.Verdict.TheVariants.{Yes, No}
use Rattle.pg_report.specs.declared.report.Report.{Report}
use Rattle.pg_report.specs.Text.{reason_number, reason_name}
use Rattle.pg_show_json.specs.Tree.{Json, count, text, object, Fields, no_fields, field}

-- the counts, in front of other fields
abbrev pub with_counts : ℕ → ℕ → Fields → Fields
with_counts events segments others =
    field (codes "events") (count events) (field (codes "segments") (count segments) others)

abbrev pub with_yes : Fields → Fields
with_yes others = field (codes "verdict") (text (codes "yes")) others

-- a no at an event, for the reason with this number and this name
abbrev pub with_no : ℕ → ℕ → List ℕ → Fields → Fields
with_no event number name others =
    field (codes "verdict") (text (codes "no")) (field (codes "event") (count event)
    (field (codes "reason") (count number) (field (codes "reason_name") (text name) others)))

abbrev pub with_verdict : Verdict → Fields → Fields
with_verdict Yes others = with_yes others
with_verdict (No event reason) others =
    with_no event (reason_number reason) (reason_name reason) others

abbrev pub with_report : Report → Fields → Fields
with_report r others = with_verdict r.verdict (with_counts r.events r.segments others)

abbrev pub report_json : Report → Json
report_json r = object (with_report r no_fields)
