-- What is written where a record is read up to its first denied event, and what an error leaves.
use Rattle.std.proofs.Common.{◌≡◌, ℕ, Bool, true, List, Option, Some, None, Ok, Err, IfOk, IfSome, inl, inr, is_some, sym, subst}
use Rattle.std.specs.Prelude.{Result}
use Rattle.pg_event.specs.declared.event.Event.{Event}
use Rattle.pg_event.specs.declared.version.Version.TheVariants.{Two}
use Rattle.pg_event.specs.Heads.{Head}
use Rattle.pg_event.specs.Spelling.{Recorded}
use Rattle.pg_codec.specs.declared.stage.Stage.{Stage}
use Rattle.pg_codec.specs.declared.stream.Source.{Ghosts}
use Rattle.pg_report.specs.declared.error.AuditError.{AuditError}
use Rattle.pg_report.specs.declared.error.AuditError.TheVariants as errors
use Rattle.pg_report.specs.Changes.{Change, Works, AddsNothing}
use Rattle.pg_report.specs.Going.{IsGoing, Continues}
use Rattle.pg_report.specs.Intake.{ReadsRecord, TellsDevice}
use Rattle.pg_report.specs.Audits.{WritesText}
use Rattle.pg_report.proofs.Verdicts.{one, none}
use Rattle.pg_answers.specs.declared.answer.Answer.{Answer}
use Rattle.pg_answers.specs.Firsts.{Begins, IsReadUpTo, IsOneUpTo, GivesFirst, IsFirstGiven}
use Rattle.pg_answers.proofs.GivenTexts.{memory_fails, reading_fails}

-- ---- what was read

-- a record on the way begins the bytes that were left at the start
continued : (head : Head) (front : List Event) (number : ℕ) (full : Bool) (start left : Option (List ℕ)) → Continues head front number full start left → IfSome start (λ bytes. Begins bytes (record { head = head; events = front }))
continued head front number full None left on = tt
continued head front number full (Some bytes) None on = absurd on
continued head front number full (Some bytes) (Some left) on = record { number = number; full = full; left = left; reading = on }

pub begins : {R : Type 0} (g : Ghosts R) (start : Option (List ℕ)) (f : ℕ) (at : List ℕ × R) (stage : Stage) (r : Recorded) (segments : ℕ) → IsGoing g Two start f at stage r segments → IfSome start (λ bytes. Begins bytes r)
begins g start f at stage r segments going = continued r.head r.events going.number going.full start _ going.continues

-- at the end
pub up_to_end : (denied : Option ℕ) (start : Option (List ℕ)) (r : Recorded) → IfSome start (λ bytes. ReadsRecord Two bytes (Ok r)) → IfSome start (λ bytes. Begins bytes r) → IfSome start (λ bytes. IsReadUpTo denied bytes r)
up_to_end denied None r reads front = tt
up_to_end None (Some bytes) r reads front = reads
up_to_end (Some n) (Some bytes) r reads front = front

-- before it, where an event is denied
pub up_to_denied : (denied : Option ℕ) (start : Option (List ℕ)) (r : Recorded) → is_some denied ≡ true → IfSome start (λ bytes. Begins bytes r) → IfSome start (λ bytes. IsReadUpTo denied bytes r)
up_to_denied denied None r is front = tt
up_to_denied None (Some bytes) r is front = absurd cc
up_to_denied (Some n) (Some bytes) r is front = front

-- ---- what is written

one_up_to : (denied : Option ℕ) (bytes : List ℕ) (r : Recorded) → IsReadUpTo denied bytes r → IsOneUpTo denied bytes r
one_up_to None bytes r reads = one bytes r reads.0
one_up_to (Some n) bytes r front = front

module _ (T : Recorded → Answer → List ℕ → Type 0) (first : Answer → Option ℕ) (input output : Change) where
  -- an error of reading, with the writer left alone
  failed : (left : Option (List ℕ)) (e : AuditError) → IfSome left (λ bytes. ReadsRecord Two bytes (Err e)) → TellsDevice {A = Recorded} input (Err e) → AddsNothing output → Works output
      → IfSome left (λ bytes. GivesFirst T first bytes input output (Err e))
  failed None e reads read kept worked = tt
  failed (Some bytes) (errors.Refused d) reads read kept worked = (reads, none bytes d reads, kept)
  failed (Some bytes) errors.Device reads read kept worked = inl ((read, worked), kept)
  failed (Some bytes) errors.Memory reads read kept worked = kept
  failed (Some bytes) errors.Thread reads read kept worked = absurd reads
  failed (Some bytes) errors.Checkers reads read kept worked = absurd reads

  pub first_fails : (e : AuditError) → IfSome input.old.bytes (λ bytes. ReadsRecord Two bytes (Err e)) → TellsDevice {A = Recorded} input (Err e) → AddsNothing output → Works output → IsFirstGiven T first input output (Err e)
  first_fails e reads read kept worked =
      let given = reading_fails T 1 input output e reads read kept worked in
      record { gives = failed input.old.bytes e reads read kept worked; written = given.written; failures = given.failures }

  -- no memory before anything is written
  pub first_out_of_memory : (r : Recorded) → TellsDevice {A = Recorded} input (Ok r) → AddsNothing output → Works output → IsFirstGiven T first input output (Err errors.Memory)
  first_out_of_memory r read kept worked =
      let given = memory_fails T 1 input output r read kept worked in
      record { gives = gives input.old.bytes; written = given.written; failures = given.failures }
    where
      gives : (left : Option (List ℕ)) → IfSome left (λ bytes. GivesFirst T first bytes input output (Err errors.Memory))
      gives None = tt
      gives (Some bytes) = kept

  module _ (r : Recorded) (x : Answer) (reads : IfSome input.old.bytes (λ bytes. IsReadUpTo (first x) bytes r)) (read : TellsDevice {A = Recorded} input (Ok r)) (text : List ℕ) (is : T r x text) where
    done : WritesText output text {A = Unit {0}} (Ok tt) → Works output → IsFirstGiven T first input output (Ok x)
    done wrote worked = record { gives = gives input.old.bytes reads; written = (r, text, is, wrote); failures = (read, worked) }
      where
        gives : (left : Option (List ℕ)) → IfSome left (λ bytes. IsReadUpTo (first x) bytes r) → IfSome left (λ bytes. GivesFirst T first bytes input output (Ok x))
        gives None reads = tt
        gives (Some bytes) reads = (r, one_up_to (first x) bytes r reads, text, is, wrote)

    unwritten : (e : AuditError) → WritesText output text {A = Unit {0}} (Err e) → TellsDevice {A = Unit {0}} output (Err e) → IsFirstGiven T first input output (Err e)
    unwritten (errors.Refused d) wrote written = absurd wrote
    unwritten errors.Device wrote written = record { gives = gives input.old.bytes reads; written = inr ((read, written), r, x, text, is, wrote); failures = inr (read, written) }
      where
        gives : (left : Option (List ℕ)) → IfSome left (λ bytes. IsReadUpTo (first x) bytes r) → IfSome left (λ bytes. GivesFirst T first bytes input output (Err errors.Device))
        gives None reads = tt
        gives (Some bytes) reads = inr ((read, written), x, (r, one_up_to (first x) bytes r reads, text, is, wrote))
    unwritten errors.Memory wrote written = first_out_of_memory r read wrote written
    unwritten errors.Thread wrote written = absurd wrote
    unwritten errors.Checkers wrote written = absurd wrote

    pub first_told : (told : Result Answer AuditError) → WritesText output text told → TellsDevice output told → IfOk told (λ v. v ≡ x) → IsFirstGiven T first input output told
    first_told (Ok v) wrote worked same = subst (λ v. IsFirstGiven T first input output (Ok v)) (sym same) (done wrote worked)
    first_told (Err (errors.Refused d)) wrote written same = absurd wrote
    first_told (Err errors.Device) wrote written same = unwritten errors.Device wrote written
    first_told (Err errors.Memory) wrote written same = unwritten errors.Memory wrote written
    first_told (Err errors.Thread) wrote written same = absurd wrote
    first_told (Err errors.Checkers) wrote written same = absurd wrote
