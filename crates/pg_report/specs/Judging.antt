-- What judging a record as it is read answers.
use Rattle.std.specs.Prelude.{◌≡◌, ◌⊎◌, ℕ, ◌+◌, ◌%◌, List, [], ◌++◌, length, Option}
use Rattle.std.specs.Prelude.{Result, Ok, Err, IfSome}
use Rattle.std.specs.Int.{div_ceil}
use Rattle.pg_event.specs.declared.event.Event.{Event}
use Rattle.pg_event.specs.declared.version.Version.TheVariants.{Two}
use Rattle.pg_event.specs.Heads.{Head}
use Rattle.pg_event.specs.Spelling.{Recorded}
use Rattle.pg_check.specs.Judging.{Findings, IsJudged}
use Rattle.pg_check.specs.Kept.{AreWellFormed}
use Rattle.pg_report.specs.declared.report.Report.{Report}
use Rattle.pg_pool.specs.declared.round.Round.{Round}
use Rattle.pg_report.specs.declared.error.AuditError.{AuditError}
use Rattle.pg_report.specs.declared.error.AuditError.TheVariants as errors
use Rattle.pg_report.specs.Intake.{ReadsRecord}
use Rattle.pg_report.specs.Text.{report_of}

-- the report is that of the record that was left, all of it
abbrev pub JudgesRecord : Option (List ℕ) → Result Report AuditError → Type 0
JudgesRecord left (Ok report) =
    (r : Recorded) × (report ≡ report_of r) × IfSome left (λ bytes. ReadsRecord Two bytes (Ok r))
JudgesRecord left (Err (errors.Refused e)) =
    IfSome left (λ bytes. ReadsRecord Two bytes (Err (errors.Refused e)))
JudgesRecord left (Err errors.Device) = Unit {0}
JudgesRecord left (Err errors.Memory) = Unit {0}
JudgesRecord left (Err errors.Thread) = Unit {0}
JudgesRecord left (Err errors.Checkers) = ⊥

-- the events that come next begin a segment, if there are any
abbrev pub BeginsSegment : Findings → List Event → Type 0
BeginsSegment f events = (events ≡ []) ⊎ (f.count % f.head.segment ≡ 0)

-- why checkers stop judging: memory is refused, or a thread
abbrev pub StopsJudging : AuditError → Type 0
StopsJudging errors.Memory = Unit {0}
StopsJudging errors.Thread = Unit {0}
StopsJudging (errors.Refused e) = ⊥
StopsJudging errors.Device = ⊥
StopsJudging errors.Checkers = ⊥

-- the segments of the events that come next
abbrev pub waiting_round : Findings → List Event → Round
waiting_round f events = record {
  first = div_ceil f.count f.head.segment;
  last = div_ceil (f.count + length events) f.head.segment;
}

-- of these events the first were judged, and the others wait
pub record IsMovedOn (f : Findings) (head : Head) (events waiting : List Event) : Type 0 where
  pub before : List Event
  pub judged : IsJudged f head before
  pub all : events ≡ before ++ waiting
  pub well : AreWellFormed head waiting

-- the report is that of the run that was judged
abbrev pub IsReportOf : Findings → Report → Type 0
IsReportOf f report = (head : Head) (events : List Event) → IsJudged f head events →
    report ≡ report_of (record { head = head; events = events })
