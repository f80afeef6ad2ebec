-- What is written for a record of which a text is asked, and what an error leaves.
use Rattle.std.proofs.Common.{◌≡◌, ◌≢◌, ℕ, List, Option, Some, None, Ok, Err, IfOk, IfSome, inl, inr, sym, subst}
use Rattle.std.specs.Prelude.{Result}
use Rattle.pg_event.specs.declared.version.Version.TheVariants.{Two}
use Rattle.pg_event.specs.Spelling.{Recorded}
use Rattle.pg_report.specs.declared.error.AuditError.{AuditError}
use Rattle.pg_report.specs.declared.error.AuditError.TheVariants as errors
use Rattle.pg_report.specs.Changes.{Change, Works, AddsNothing}
use Rattle.pg_report.specs.Intake.{ReadsRecord, TellsDevice}
use Rattle.pg_report.specs.Audits.{WritesText, TellsFailures}
use Rattle.pg_report.proofs.Verdicts.{one, none}
use Rattle.pg_answers.specs.Texts.{GivesText, HasWrittenText, IsTextGivenBy}

-- an error leaves the same, whatever else there would be to answer
pub of_error : (A B : Type 0) (output : Change) (text : List ℕ) (e : AuditError) → WritesText output text {A = A} (Err e) → WritesText output text {A = B} (Err e)
of_error A B output text (errors.Refused d) wrote = wrote
of_error A B output text errors.Device wrote = wrote
of_error A B output text errors.Memory wrote = wrote
of_error A B output text errors.Thread wrote = wrote
of_error A B output text errors.Checkers wrote = wrote

module _ {A : Type 0} (T : Recorded → A → List ℕ → Type 0) (checkers : ℕ) (input output : Change) where
  -- ---- an error of reading, with the writer left alone

  reading_gives : (left : Option (List ℕ)) (e : AuditError) → IfSome left (λ bytes. ReadsRecord Two bytes (Err e)) → TellsDevice {A = Recorded} input (Err e) → AddsNothing output → Works output
      → IfSome left (λ bytes. GivesText T checkers bytes input output (Err e))
  reading_gives None e reads read kept worked = tt
  reading_gives (Some bytes) (errors.Refused d) reads read kept worked = (reads, none bytes d reads, kept)
  reading_gives (Some bytes) errors.Device reads read kept worked = inl ((read, worked), kept)
  reading_gives (Some bytes) errors.Memory reads read kept worked = kept
  reading_gives (Some bytes) errors.Thread reads read kept worked = absurd reads
  reading_gives (Some bytes) errors.Checkers reads read kept worked = absurd reads

  pub reading_fails : (e : AuditError) → IfSome input.old.bytes (λ bytes. ReadsRecord Two bytes (Err e)) → TellsDevice {A = Recorded} input (Err e) → AddsNothing output → Works output → IsTextGivenBy T checkers input output (Err e)
  reading_fails e reads read kept worked = record { gives = reading_gives input.old.bytes e reads read kept worked; written = nothing e read; failures = tells e read }
    where
      nothing : (e : AuditError) → TellsDevice {A = Recorded} input (Err e) → HasWrittenText T input output (Err e)
      nothing (errors.Refused d) read = kept
      nothing errors.Device read = inl ((read, worked), kept)
      nothing errors.Memory read = kept
      nothing errors.Thread read = kept
      nothing errors.Checkers read = kept

      tells : (e : AuditError) → TellsDevice {A = Recorded} input (Err e) → TellsFailures {A = A} input output (Err e)
      tells (errors.Refused d) read = (read, worked)
      tells errors.Device read = inl (read, worked)
      tells errors.Memory read = (read, worked)
      tells errors.Thread read = (read, worked)
      tells errors.Checkers read = (read, worked)

  -- memory ran out before anything is written
  pub memory_fails : (r : Recorded) → TellsDevice {A = Recorded} input (Ok r) → AddsNothing output → Works output → IsTextGivenBy T checkers input output (Err errors.Memory)
  memory_fails r read kept worked = record { gives = gives input.old.bytes; written = kept; failures = (read, worked) }
    where
      gives : (left : Option (List ℕ)) → IfSome left (λ bytes. GivesText T checkers bytes input output (Err errors.Memory))
      gives None = tt
      gives (Some bytes) = kept

  -- a thread that was refused, where there are several checkers
  pub thread_fails : (r : Recorded) → TellsDevice {A = Recorded} input (Ok r) → checkers ≢ 1 → AddsNothing output → Works output → IsTextGivenBy T checkers input output (Err errors.Thread)
  thread_fails r read several kept worked = record { gives = gives input.old.bytes; written = kept; failures = (read, worked) }
    where
      gives : (left : Option (List ℕ)) → IfSome left (λ bytes. GivesText T checkers bytes input output (Err errors.Thread))
      gives None = tt
      gives (Some bytes) = (several, kept)

  module _ (r : Recorded) (reads : IfSome input.old.bytes (λ bytes. ReadsRecord Two bytes (Ok r))) (read : TellsDevice {A = Recorded} input (Ok r)) (x : A) (text : List ℕ) (is : T r x text) where
    text_written : WritesText output text {A = Unit {0}} (Ok tt) → Works output → IsTextGivenBy T checkers input output (Ok x)
    text_written wrote worked = record { gives = gives input.old.bytes reads; written = (r, text, is, wrote); failures = (read, worked) }
      where
        gives : (left : Option (List ℕ)) → IfSome left (λ bytes. ReadsRecord Two bytes (Ok r)) → IfSome left (λ bytes. GivesText T checkers bytes input output (Ok x))
        gives None reads = tt
        gives (Some bytes) reads = (r, one bytes r reads.0, text, is, wrote)

    text_fails : (e : AuditError) → WritesText output text {A = Unit {0}} (Err e) → TellsDevice {A = Unit {0}} output (Err e) → IsTextGivenBy T checkers input output (Err e)
    text_fails e wrote written = record { gives = gives input.old.bytes e reads wrote written; written = some e wrote written; failures = tells e wrote written }
      where
        gives : (left : Option (List ℕ)) (e : AuditError) → IfSome left (λ bytes. ReadsRecord Two bytes (Ok r)) → WritesText output text {A = Unit {0}} (Err e) → TellsDevice {A = Unit {0}} output (Err e)
            → IfSome left (λ bytes. GivesText T checkers bytes input output (Err e))
        gives None e reads wrote written = tt
        gives (Some bytes) (errors.Refused d) reads wrote written = absurd wrote
        gives (Some bytes) errors.Device reads wrote written = inr ((read, written), x, (r, one bytes r reads.0, text, is, wrote))
        gives (Some bytes) errors.Memory reads wrote written = wrote
        gives (Some bytes) errors.Thread reads wrote written = absurd wrote
        gives (Some bytes) errors.Checkers reads wrote written = absurd wrote

        some : (e : AuditError) → WritesText output text {A = Unit {0}} (Err e) → TellsDevice {A = Unit {0}} output (Err e) → HasWrittenText T input output (Err e)
        some (errors.Refused d) wrote written = absurd wrote
        some errors.Device wrote written = inr ((read, written), r, x, text, is, wrote)
        some errors.Memory wrote written = wrote
        some errors.Thread wrote written = absurd wrote
        some errors.Checkers wrote written = absurd wrote

        tells : (e : AuditError) → WritesText output text {A = Unit {0}} (Err e) → TellsDevice {A = Unit {0}} output (Err e) → TellsFailures {A = A} input output (Err e)
        tells (errors.Refused d) wrote written = absurd wrote
        tells errors.Device wrote written = inr (read, written)
        tells errors.Memory wrote written = (read, written)
        tells errors.Thread wrote written = absurd wrote
        tells errors.Checkers wrote written = absurd wrote

    pub text_told : (told : Result A AuditError) → WritesText output text told → TellsDevice output told → IfOk told (λ v. v ≡ x) → IsTextGivenBy T checkers input output told
    text_told (Ok v) wrote worked same = subst (λ v. IsTextGivenBy T checkers input output (Ok v)) (sym same) (text_written wrote worked)
    text_told (Err e) wrote failed same = text_fails e (of_error A Unit output text e wrote) failed
