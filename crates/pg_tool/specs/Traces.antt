-- What `--trace` answers of a record with one order. Errors are told as lines.
use Rattle.std.specs.Prelude.{◌≡◌, ℕ, Bool, true, false, List, Result, Ok, Err}
use Rattle.pg_event.specs.declared.selection.Selection.{Selection}
use Rattle.pg_event.specs.Spelling.{Recorded}
use Rattle.pg_answers.specs.Unnamed.{is_unnamed}
use Rattle.pg_answers.specs.Refusals.{TellsError}
use Rattle.pg_answers.specs.Status.{error_status}
use Rattle.pg_answers.specs.Streams.{Streams}
use Rattle.pg_report.specs.declared.error.AuditError.{AuditError}
use Rattle.pg_show_trace.specs.declared.judged.Traced.{Traced}
use Rattle.pg_show_trace.specs.declared.judged.Traced.TheVariants.{Accepted, Rejected}
use Rattle.pg_show_trace.specs.Given.{IsTraceGiven}
use Rattle.pg_show_trace.specs.Judged.{IsCertifiedTrace, IsExplainedTrace}
use Rattle.pg_show_trace.specs.Shown.{IsShownTrace}

abbrev pub shown_status : Result (Unit {0}) AuditError → ℕ
shown_status (Ok x) = 0
shown_status (Err e) = error_status e

abbrev pub traced_status : Result Traced AuditError → ℕ
traced_status (Ok Accepted) = 0
traced_status (Ok Rejected) = 1
traced_status (Err e) = error_status e

-- a trace was given so by so many checkers, the status is that of the answer, and standard error
-- has its line
abbrev pub Traces : {A : Type 0} → (Recorded → A → List ℕ → Type 0) →
    (Result A AuditError → ℕ) → ℕ → Streams → ℕ → Type 0
Traces {A} IsTraceOf status_of checkers s status =
    (answer : Result A AuditError) × (status ≡ status_of answer)
    × IsTraceGiven IsTraceOf checkers s.input s.output answer × TellsError s.errors answer

-- the events that a selection asks for
abbrev pub TracesShown : Selection → Streams → ℕ → Type 0
TracesShown selection = Traces (IsShownTrace selection) shown_status 1

-- whether some moments witness all events
abbrev pub TracesCertified : ℕ → Streams → ℕ → Type 0
TracesCertified checkers = Traces IsCertifiedTrace traced_status checkers

-- whether their own do, of a record that names moments; of one that names none the same
abbrev pub IsExplanationTraceOf : Bool → Recorded → Traced → List ℕ → Type 0
IsExplanationTraceOf true r x text = IsCertifiedTrace r x text
IsExplanationTraceOf false r x text = IsExplainedTrace r x text

abbrev pub IsExplanationTrace : Recorded → Traced → List ℕ → Type 0
IsExplanationTrace r x text = IsExplanationTraceOf (is_unnamed r.events) r x text

abbrev pub TracesExplained : Streams → ℕ → Type 0
TracesExplained = Traces IsExplanationTrace traced_status 1
