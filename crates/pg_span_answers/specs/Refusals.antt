-- The line of a record with spans that is refused.
use Rattle.std.specs.Prelude.{ℕ, List, ◌++◌, codes, decimal}
use Rattle.pg_report.specs.declared.error.AuditError.TheVariants as audits
use Rattle.pg_answers.specs.Refusals.{refusal_line}
use Rattle.pg_span_run.specs.declared.refusal.SpannedRefusal.{SpannedRefusal}
use Rattle.pg_span_run.specs.declared.refusal.SpannedRefusal.TheVariants.{Plain, Back}

-- as that of a record with one order; the span of an event that begins before the first event
-- breaks rule 7
abbrev pub spans_line : SpannedRefusal → List ℕ
spans_line (Plain refusal) = refusal_line (audits.Refused refusal)
spans_line (Back event) =
    (codes "pcid-audit: refused 7 malformed event " ++ decimal event) ++ codes " rule 7\n"
