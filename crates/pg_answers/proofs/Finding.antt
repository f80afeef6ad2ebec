-- What answering a question of a record promises, and what is left of that once the answer is
-- written.
use Rattle.std.proofs.Common.{◌≡◌, ◌≢◌, ℕ, List, Option, Some, None, Ok, Err, IfOk, IfErr, IfSome, inl, refl}
use Rattle.std.specs.Prelude.{Result}
use Rattle.pg_event.specs.declared.version.Version.TheVariants.{Two}
use Rattle.pg_event.specs.Spelling.{Recorded}
use Rattle.pg_report.specs.declared.error.AuditError.{AuditError}
use Rattle.pg_report.specs.declared.error.AuditError.TheVariants as errors
use Rattle.pg_report.specs.Changes.{Change, Works, AddsNothing}
use Rattle.pg_report.specs.Intake.{ReadsRecord, TellsDevice}
use Rattle.pg_report.specs.Audits.{WritesText, TellsFailures}
use Rattle.pg_report.proofs.Verdicts.{none}
use Rattle.pg_answers.specs.Texts.{GivesText, HasWrittenText, IsTextGivenBy}
use Rattle.pg_answers.specs.Found.{Finds, IsAbleBy, IsFound, MayFail}
use Rattle.pg_answers.proofs.GivenTexts.{text_told}

abbrev pub IsAlone : {B : Type 0} → Result B AuditError → Type 0
IsAlone result = (result ≢ Err errors.Thread) × (result ≢ Err errors.Checkers)

module _ {A : Type 0} (Is : Recorded → A → Type 0) (checkers : ℕ) (input : Change) where
  -- ---- a record that was not read

  found_none : {B : Type 0} (left : Option (List ℕ)) (e : AuditError) → IfSome left (λ bytes. ReadsRecord Two bytes (Err e)) → IsAlone {B = B} (Err e) → Finds Is checkers left (Err e)
  found_none left (errors.Refused d) reads alone = reads
  found_none left errors.Device reads alone = tt
  found_none left errors.Memory reads alone = tt
  found_none left errors.Thread reads alone = absurd (alone.0 refl)
  found_none left errors.Checkers reads alone = absurd (alone.1 refl)

  pub not_read : {B : Type 0} (e : AuditError) → IfSome input.old.bytes (λ bytes. ReadsRecord Two bytes (Err e)) → TellsDevice {A = B} input (Err e) → IsAlone {B = B} (Err e) → IsFound Is checkers input (Err e)
  not_read e reads read alone = record { finds = found_none input.old.bytes e reads alone; device = read }

  -- ---- one that was

  module _ (r : Recorded) (reads : IfSome input.old.bytes (λ bytes. ReadsRecord Two bytes (Ok r))) (read : TellsDevice {A = Recorded} input (Ok r)) where
    pub answered : (result : Result A AuditError) → IfOk result (Is r) → IfErr result (MayFail checkers) → IsFound Is checkers input result
    answered (Ok x) is may = record { finds = (r, is, reads); device = read }
    answered (Err (errors.Refused d)) is may = absurd may
    answered (Err errors.Device) is may = absurd may
    answered (Err errors.Memory) is may = record { finds = tt; device = read }
    answered (Err errors.Thread) is may = record { finds = may; device = read }
    answered (Err errors.Checkers) is may = absurd may

  -- ---- so many checkers can be had

  never_checkers : (left : Option (List ℕ)) (result : Result A AuditError) → Finds Is checkers left result → result ≢ Err errors.Checkers
  never_checkers left (Ok x) h is = absurd cc
  never_checkers left (Err (errors.Refused d)) h is = absurd cc
  never_checkers left (Err errors.Device) h is = absurd cc
  never_checkers left (Err errors.Memory) h is = absurd cc
  never_checkers left (Err errors.Thread) h is = absurd cc
  never_checkers left (Err errors.Checkers) h is = absurd h

  no_thread : (left : Option (List ℕ)) (result : Result A AuditError) → Finds Is checkers left result → checkers ≡ 1 → result ≢ Err errors.Thread
  no_thread left (Ok x) h one is = absurd cc
  no_thread left (Err (errors.Refused d)) h one is = absurd cc
  no_thread left (Err errors.Device) h one is = absurd cc
  no_thread left (Err errors.Memory) h one is = absurd cc
  no_thread left (Err errors.Thread) h one is = absurd (h one)
  no_thread left (Err errors.Checkers) h one is = absurd h

  pub able : (result : Result A AuditError) → IsFound Is checkers input result → IsAbleBy checkers result
  able result h = (never_checkers input.old.bytes result h.finds, no_thread input.old.bytes result h.finds)

  -- ---- what one checker answers, so many do

  found_by_any : (left : Option (List ℕ)) (result : Result A AuditError) → Finds Is 1 left result → Finds Is checkers left result
  found_by_any left (Ok x) h = h
  found_by_any left (Err (errors.Refused d)) h = h
  found_by_any left (Err errors.Device) h = tt
  found_by_any left (Err errors.Memory) h = tt
  found_by_any left (Err errors.Thread) h = absurd (h refl)
  found_by_any left (Err errors.Checkers) h = absurd h

  pub by_any : (result : Result A AuditError) → IsFound Is 1 input result → IsFound Is checkers input result
  by_any result h = record { finds = found_by_any input.old.bytes result h.finds; device = h.device }

  -- ---- writing

  module _ (R : A → List ℕ → Type 0) (output : Change) where
    abbrev Rendered : Recorded → A → List ℕ → Type 0
    Rendered r x text = Is r x × R x text

    -- where there is no answer nothing is written
    pub unanswered : (e : AuditError) → IsFound Is checkers input (Err e) → AddsNothing output → Works output → IsTextGivenBy Rendered checkers input output (Err e)
    unanswered e found kept worked = record { gives = gives input.old.bytes e found.finds found.device; written = nothing e found.device; failures = tells e found.device }
      where
        gives : (left : Option (List ℕ)) (e : AuditError) → Finds Is checkers left (Err e) → TellsDevice {A = A} input (Err e) → IfSome left (λ bytes. GivesText Rendered checkers bytes input output (Err e))
        gives None e finds read = tt
        gives (Some bytes) (errors.Refused d) finds read = (finds, none bytes d finds, kept)
        gives (Some bytes) errors.Device finds read = inl ((read, worked), kept)
        gives (Some bytes) errors.Memory finds read = kept
        gives (Some bytes) errors.Thread finds read = (finds, kept)
        gives (Some bytes) errors.Checkers finds read = absurd finds

        nothing : (e : AuditError) → TellsDevice {A = A} input (Err e) → HasWrittenText Rendered input output (Err e)
        nothing (errors.Refused d) read = kept
        nothing errors.Device read = inl ((read, worked), kept)
        nothing errors.Memory read = kept
        nothing errors.Thread read = kept
        nothing errors.Checkers read = kept

        tells : (e : AuditError) → TellsDevice {A = A} input (Err e) → TellsFailures {A = A} input output (Err e)
        tells (errors.Refused d) read = (read, worked)
        tells errors.Device read = inl (read, worked)
        tells errors.Memory read = (read, worked)
        tells errors.Thread read = (read, worked)
        tells errors.Checkers read = (read, worked)

    -- an answer is written as this text
    pub answer_told : (x : A) (text : List ℕ) → IsFound Is checkers input (Ok x) → R x text → (told : Result A AuditError) → WritesText output text told → TellsDevice output told → IfOk told (λ v. v ≡ x)
        → IsTextGivenBy Rendered checkers input output told
    answer_told x text found is told wrote device same =
        let finds = found.finds in
        text_told Rendered checkers input output finds.0 finds.2 found.device x text (finds.1, is) told wrote device same
