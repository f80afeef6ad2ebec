-- Laws of merged logs.
use Rattle.std.specs.Prelude.{◌≡◌, ℕ, ◌+◌, ◌-◌, ◌<◌, ◌↔◌, ◌==◌, List, map, Some, Ok, slice_get}
use Rattle.std.specs.List.{All, filter}
use Rattle.pg_event.specs.Form.{processor_of}
use Rattle.pg_span_run.specs.Orders.{Spanned, ended_before}
use Rattle.pg_span_run.specs.declared.log.Stamped.{Stamped}
use Rattle.pg_span_run.specs.Logs.{Logged, IsLog}
use Rattle.pg_event.specs.Laws.{AreBytes}
use Rattle.pg_span_run.specs.Merged.{IsMerged}
use Rattle.pg_span_run.specs.LogReading.{log_reading}

-- what was read as a log is one
abbrev pub ReadLogsAreLogs : Type 0
ReadLogsAreLogs =
    (bytes : List ℕ) (log : Logged) → AreBytes bytes → log_reading bytes ≡ Ok log → IsLog log

-- the events of a processor are those of its log, in its order
abbrev pub MergedLogsKeepPrograms : Type 0
MergedLogsKeepPrograms =
    (logs : List Logged) (error : ℕ) (run : Spanned) → IsMerged logs error run →
    All
    (λ log. filter (λ e. processor_of e == log.head.own) run.events ≡ map (λ x. x.event) log.events)
    logs

-- event j had ended when event i began exactly where the stamps say so
abbrev pub SpansAreAsStamped : Type 0
SpansAreAsStamped =
    (logs : List Logged) (error : ℕ) (run : Spanned) (merged : IsMerged logs error run) →
    All IsLog logs → (j i : ℕ) (y x : Stamped) →
    slice_get merged.all j ≡ Some y → slice_get merged.all i ≡ Some x →
    (j < ended_before run i) ↔ (y.end + error < x.begin - error)
