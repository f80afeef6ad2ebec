-- What a verdict means, and what an error leaves.
use Rattle.std.proofs.Common.{◌≡◌, ℕ, List, Option, Some, None, Ok, Err, refl, sym, ap, subst, ◌∙◌, inl, inr}
use Rattle.std.specs.Prelude.{IfSome}
use Rattle.pg_event.specs.declared.event.Reason.{Reason}
use Rattle.pg_event.specs.declared.refusal.Refusal.{Refusal}
use Rattle.pg_event.specs.Witness.{first_bad}
use Rattle.pg_event.specs.Spelling.{Recorded, Spells}
use Rattle.pg_event.specs.Reading.{refusal, refusal_of}
use Rattle.pg_event.proofs.Records.{reading_again}
use Rattle.pg_event.proofs.Spellings.{no_bytes_spell_two_records}
use Rattle.pg_run_of.proofs.Whole.{accepted_records_run}
use Rattle.pg_report.specs.declared.report.Verdict.{Verdict}
use Rattle.pg_report.specs.declared.report.Verdict.TheVariants.{Yes, No}
use Rattle.pg_report.specs.declared.report.Report.{Report}
use Rattle.pg_report.specs.declared.error.AuditError.{AuditError}
use Rattle.pg_report.specs.declared.error.AuditError.TheVariants as errors
use Rattle.pg_report.specs.Changes.{Change, Works, Adds, AddsNothing}
use Rattle.pg_event.specs.declared.version.Version.TheVariants.{Two}
use Rattle.pg_report.specs.Intake.{ReadsRecord, TellsDevice}
use Rattle.pg_report.specs.Text.{verdict_of, report_of, report_text}
use Rattle.pg_report.specs.Judging.{JudgesRecord}
use Rattle.pg_report.specs.Audits.{IsTheVerdict, WritesText, SpellsOne, SpellsNone, Audits, MeansRun, HasWritten, TellsFailures, IsAudit}

pub none_bad : (bad : Option (ℕ × Reason)) → verdict_of bad ≡ Yes → bad ≡ None
none_bad None e = refl
none_bad (Some b) e = absurd cc

-- no other record has these bytes
pub one : (bytes : List ℕ) (r : Recorded) → Spells bytes r → SpellsOne bytes r
one bytes r spells = (spells, λ s other. no_bytes_spell_two_records bytes s r other spells)

none_is_no_refusal : (e : Refusal) → None ≡ Some e → ⊥
none_is_no_refusal e h = cc

-- bytes that are refused spell no record
pub none : (bytes : List ℕ) (e : Refusal) → refusal bytes ≡ Some e → SpellsNone bytes
none bytes e h r spells = none_is_no_refusal e (sym (ap refusal_of (reading_again bytes r spells)) ∙ h)

runs : (verdict : Verdict) (bytes : List ℕ) (r : Recorded) → Spells bytes r → (report_of r).verdict ≡ verdict → MeansRun bytes (Ok verdict)
runs Yes bytes r spells e = (r, one bytes r spells, accepted_records_run r spells.0 (none_bad (first_bad r.head r.events) e))
runs (No event reason) bytes r spells e = tt

told_means : (left : Option (List ℕ)) (r : Recorded) → IfSome left (λ bytes. ReadsRecord Two bytes (Ok r)) → IfSome left (λ bytes. MeansRun bytes (Ok (report_of r).verdict))
told_means None r reads = tt
told_means (Some bytes) r reads = runs (report_of r).verdict bytes r reads.0 refl

told_written : (left : Option (List ℕ)) (r : Recorded) (input output : Change) → IfSome left (λ bytes. ReadsRecord Two bytes (Ok r)) → WritesText output (report_text (report_of r)) {A = Verdict} (Ok (report_of r).verdict)
    → IfSome left (λ bytes. Audits bytes input output (Ok (report_of r).verdict))
told_written None r input output reads wrote = tt
told_written (Some bytes) r input output reads wrote =
    (r, one bytes r reads.0, refl, wrote, λ yes. accepted_records_run r reads.0.0 (none_bad (first_bad r.head r.events) yes))

-- whatever audit of the bytes comes to a verdict, it is this one
same_verdict : (bytes : List ℕ) (r : Recorded) (input output : Change) (other : Verdict) → Spells bytes r → Audits bytes input output (Ok other) → (other ≡ (report_of r).verdict) × Adds output (report_text (report_of r))
same_verdict bytes r input output other spells (s, one_s, is, wrote, runs_s) =
    let e : s ≡ r = no_bytes_spell_two_records bytes s r one_s.0 spells in
    (is ∙ ap (λ (x : Recorded). (report_of x).verdict) e, subst (λ (x : Recorded). Adds output (report_text (report_of x))) e wrote)

told_only : (left : Option (List ℕ)) (r : Recorded) (output : Change) → IfSome left (λ bytes. ReadsRecord Two bytes (Ok r)) → WritesText output (report_text (report_of r)) {A = Verdict} (Ok (report_of r).verdict)
    → IfSome left (λ bytes. IsTheVerdict bytes output (Ok (report_of r).verdict))
told_only None r output reads wrote = tt
told_only (Some bytes) r output reads wrote = (report_text (report_of r), wrote, λ other input' output' audits. same_verdict bytes r input' output' other reads.0 audits)

no_verdict : (left : Option (List ℕ)) (e : AuditError) (output : Change) → IfSome left (λ bytes. IsTheVerdict bytes output (Err e))
no_verdict None e output = tt
no_verdict (Some bytes) e output = tt

-- a verdict whose report was written
pub is_verdict : (r : Recorded) (report : Report) (input output : Change) → IfSome input.old.bytes (λ bytes. ReadsRecord Two bytes (Ok r)) → report ≡ report_of r
    → TellsDevice {A = Recorded} input (Ok r) → WritesText output (report_text report) {A = Verdict} (Ok report.verdict) → TellsDevice {A = Verdict} output (Ok report.verdict)
    → IsAudit input output (Ok report.verdict)
is_verdict r report input output reads is read wrote written =
    let P : Report → Type 0 = λ x. WritesText output (report_text x) {A = Verdict} (Ok x.verdict) → IsAudit input output (Ok x.verdict) in
    subst P (sym is) (λ wrote. record {
      report = told_written input.old.bytes r input output reads wrote;
      yes = told_means input.old.bytes r reads;
      only = told_only input.old.bytes r output reads wrote;
      written = (report_of r, refl, wrote);
      failures = (read, written);
    }) wrote

refused : (left : Option (List ℕ)) (e : AuditError) (input output : Change) → JudgesRecord left (Err e) → TellsDevice {A = Recorded} input (Err e) → AddsNothing output → Works output
    → IfSome left (λ bytes. Audits bytes input output (Err e))
refused None e input output reads read kept worked = tt
refused (Some bytes) (errors.Refused d) input output reads read kept worked = (reads, none bytes d reads, kept)
refused (Some bytes) errors.Device input output reads read kept worked = inl ((read, worked), kept)
refused (Some bytes) errors.Memory input output reads read kept worked = kept
refused (Some bytes) errors.Thread input output reads read kept worked = kept
refused (Some bytes) errors.Checkers input output reads read kept worked = kept

-- whatever the error is, the bytes mean nothing by it
no_run : (left : Option (List ℕ)) (e : AuditError) → IfSome left (λ bytes. MeansRun bytes (Err e))
no_run None e = tt
no_run (Some bytes) e = tt

-- an error of reading, with the writer left alone
pub reading_fails : (e : AuditError) (input output : Change) → JudgesRecord input.old.bytes (Err e) → TellsDevice {A = Recorded} input (Err e) → AddsNothing output → Works output
    → IsAudit input output (Err e)
reading_fails e input output reads read kept worked = record {
  report = refused input.old.bytes e input output reads read kept worked;
  yes = no_run input.old.bytes e;
  only = no_verdict input.old.bytes e output;
  written = nothing e read;
  failures = tells e read;
}
  where
    nothing : (e : AuditError) → TellsDevice {A = Recorded} input (Err e) → HasWritten input output (Err e)
    nothing (errors.Refused d) read = kept
    nothing errors.Device read = inl ((read, worked), kept)
    nothing errors.Memory read = kept
    nothing errors.Thread read = kept
    nothing errors.Checkers read = kept

    tells : (e : AuditError) → TellsDevice {A = Recorded} input (Err e) → TellsFailures {A = Verdict} input output (Err e)
    tells (errors.Refused d) read = (read, worked)
    tells errors.Device read = inl (read, worked)
    tells errors.Memory read = (read, worked)
    tells errors.Thread read = (read, worked)
    tells errors.Checkers read = (read, worked)

-- an error of writing the report
pub writing_fails : (r : Recorded) (report : Report) (e : AuditError) (input output : Change) → IfSome input.old.bytes (λ bytes. ReadsRecord Two bytes (Ok r)) → report ≡ report_of r
    → TellsDevice {A = Recorded} input (Ok r) → WritesText output (report_text report) {A = Verdict} (Err e) → TellsDevice {A = Verdict} output (Err e)
    → IsAudit input output (Err e)
writing_fails r report e input output reads is read wrote written = record {
  report = told input.old.bytes e reads (subst P is wrote) written;
  yes = no_run input.old.bytes e;
  only = no_verdict input.old.bytes e output;
  written = nothing e wrote written;
  failures = tells e wrote written;
}
  where
    P : Report → Type 0
    P x = WritesText output (report_text x) {A = Verdict} (Err e)

    told : (left : Option (List ℕ)) (e : AuditError) → IfSome left (λ bytes. ReadsRecord Two bytes (Ok r)) → WritesText output (report_text (report_of r)) {A = Verdict} (Err e) → TellsDevice {A = Verdict} output (Err e)
        → IfSome left (λ bytes. Audits bytes input output (Err e))
    told None e reads wrote written = tt
    told (Some bytes) (errors.Refused d) reads wrote written = absurd wrote
    told (Some bytes) errors.Device reads wrote written = inr ((read, written), r, one bytes r reads.0, wrote)
    told (Some bytes) errors.Memory reads wrote written = wrote
    told (Some bytes) errors.Thread reads wrote written = absurd wrote
    told (Some bytes) errors.Checkers reads wrote written = absurd wrote

    nothing : (e : AuditError) → WritesText output (report_text report) {A = Verdict} (Err e) → TellsDevice {A = Verdict} output (Err e) → HasWritten input output (Err e)
    nothing (errors.Refused d) wrote written = absurd wrote
    nothing errors.Device wrote written = inr ((read, written), report, wrote)
    nothing errors.Memory wrote written = wrote
    nothing errors.Thread wrote written = absurd wrote
    nothing errors.Checkers wrote written = absurd wrote

    tells : (e : AuditError) → WritesText output (report_text report) {A = Verdict} (Err e) → TellsDevice {A = Verdict} output (Err e) → TellsFailures {A = Verdict} input output (Err e)
    tells (errors.Refused d) wrote written = absurd wrote
    tells errors.Device wrote written = inr (read, written)
    tells errors.Memory wrote written = (read, written)
    tells errors.Thread wrote written = absurd wrote
    tells errors.Checkers wrote written = absurd wrote
