use Rattle.std.proofs.Common.{refl}
use Rattle.std.proofs.KnownBytes.{Keeps-refl}
use Rattle.pg_report.proofs.Verdicts.{is_verdict, reading_fails, writing_fails}
use Rattle.pg_report.proofs.auditor.audit_watched.Goals as goal

pub returns-in-Err-clause-audit : goal.returns-in-Err-clause-audit
returns-in-Err-clause-audit g c = reading_fails c.in-Err.error _ _ c.in-Err.ensures.judges c.in-Err.ensures.device (Keeps-refl _) refl

pub returns-in-Ok-write_report-clause-audit : goal.returns-in-Ok-write_report-clause-audit
returns-in-Ok-write_report-clause-audit g c =
    let judged = c.in-Ok.ensures.judges in
    let wrote = c.in-Ok-write_report.ensures in
    is_verdict judged.0 c.in-Ok.report _ _ judged.2 judged.1 c.in-Ok.ensures.device wrote.text wrote.device

pub returns-clause-audit : goal.returns-clause-audit
returns-clause-audit g c =
    let judged = c.in-Ok.ensures.judges in
    let wrote = c.in-Err-write_report.ensures in
    writing_fails judged.0 c.in-Ok.report c.in-Err-write_report.error _ _ judged.2 judged.1 c.in-Ok.ensures.device wrote.text wrote.device
