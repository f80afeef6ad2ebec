-- What `show` writes of a record with no one order.
use Rattle.std.specs.Prelude.{◌⊎◌, ℕ, Result, Ok, Err, Some, None}
use Rattle.pg_event.specs.declared.selection.Selection.{Selection}
use Rattle.pg_report.specs.Changes.{Change}
use Rattle.pg_answers.specs.Streams.{Streams}
use Rattle.pg_span_run.specs.Orders.{Spanned}
use Rattle.pg_span_text.specs.Lines.{spanned_lines}
use Rattle.pg_span_answers.specs.declared.reading.Unread.{Unread}
use Rattle.pg_span_answers.specs.Answers.{GivesOut, WantsMemory, TellsUnread}
use Rattle.pg_span_answers.specs.Readings.{ReadsRun, DeviceTold}
use Rattle.pg_show_trace.specs.Spans.{document_text}

-- the lines of a run's events that a selection asks for, or memory ran out
abbrev pub GivesLines : Selection → Spanned → Change → Change → ℕ → Type 0
GivesLines selection s output errors status =
    GivesOut (spanned_lines selection s) 0 output errors status ⊎ WantsMemory output errors status

-- or their trace
abbrev pub GivesEvents : Selection → Spanned → Change → Change → ℕ → Type 0
GivesEvents selection s output errors status =
    GivesOut (document_text (Some selection) None s) 0 output errors status
    ⊎ WantsMemory output errors status

abbrev pub EventsFollow : Selection → Result Spanned Unread → Change → Change → ℕ → Type 0
EventsFollow selection (Ok s) output errors status = GivesEvents selection s output errors status
EventsFollow selection (Err why) output errors status = TellsUnread why output errors status

abbrev pub LinesFollow : Selection → Result Spanned Unread → Change → Change → ℕ → Type 0
LinesFollow selection (Ok s) output errors status = GivesLines selection s output errors status
LinesFollow selection (Err why) output errors status = TellsUnread why output errors status

-- all that is promised of it: where the bytes of the input are known, they spell the run whose
-- lines are written, or this is their first refusal; and it is told of the device exactly where the
-- input failed
abbrev pub ShowsSpans : Selection → Streams → ℕ → Type 0
ShowsSpans selection st status =
    (read : Result Spanned Unread) × ReadsRun st.input.old.bytes read
    × DeviceTold st.input read × LinesFollow selection read st.output st.errors status

-- the same of their trace
abbrev pub TracesSpans : Selection → Streams → ℕ → Type 0
TracesSpans selection st status =
    (read : Result Spanned Unread) × ReadsRun st.input.old.bytes read
    × DeviceTold st.input read × EventsFollow selection read st.output st.errors status
