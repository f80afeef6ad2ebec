-- Exit statuses.
use Rattle.std.specs.Prelude.{ℕ, Result, Ok, Err}
use Rattle.pg_report.specs.declared.report.Verdict.{Verdict}
use Rattle.pg_report.specs.declared.report.Verdict.TheVariants.{Yes, No}
use Rattle.pg_report.specs.declared.error.AuditError.{AuditError}
use Rattle.pg_report.specs.declared.error.AuditError.TheVariants.{Refused, Device, Memory}
use Rattle.pg_report.specs.declared.error.AuditError.TheVariants.{Thread, Checkers}

-- 0 yes, 1 no, 2 refused input or an I/O error, 3 out of memory or a thread that could not be
-- created, 64 a number of checkers that can't be
abbrev pub error_status : AuditError → ℕ
error_status (Refused e) = 2
error_status Device = 2
error_status Memory = 3
error_status Thread = 3
error_status Checkers = 64

abbrev pub verdict_status : Verdict → ℕ
verdict_status Yes = 0
verdict_status (No event reason) = 1

abbrev pub status_of : Result Verdict AuditError → ℕ
status_of (Ok verdict) = verdict_status verdict
status_of (Err e) = error_status e
