-- What is left of a trace where it, or the reading of its record, ends.
use Rattle.std.proofs.Common.{◌≡◌, ◌≢◌, ℕ, List, Option, Some, None, Ok, Err, inl, inr, refl, sym, subst}
use Rattle.std.specs.Prelude.{Result, IfOk, IfSome}
use Rattle.pg_event.specs.declared.refusal.Refusal.{Refusal}
use Rattle.pg_event.specs.declared.version.Version.TheVariants.{Two}
use Rattle.pg_event.specs.Reading.{refusal}
use Rattle.pg_event.specs.Spelling.{Recorded}
use Rattle.pg_report.specs.declared.error.AuditError.{AuditError}
use Rattle.pg_report.specs.declared.error.AuditError.TheVariants as errors
use Rattle.pg_report.specs.Audits.{SpellsOne, SpellsNone, TellsFailures}
use Rattle.pg_report.specs.Changes.{Change, AddsNothing, Works}
use Rattle.pg_report.specs.Intake.{ReadsRecord, TellsDevice}
use Rattle.pg_report.proofs.Verdicts.{one, none}
use Rattle.pg_show_trace.specs.Given.{IsTraceGiven, HasBegun, IsAlone, WritesPart, WritesTrace}
use Rattle.pg_show_trace.proofs.Reading.{reader_stops}

-- no thread was asked for
abbrev pub IsLone : {B : Type 0} → Result B AuditError → Type 0
IsLone result = (result ≢ Err errors.Thread) × (result ≢ Err errors.Checkers)

pub spells : (start : Option (List ℕ)) (r : Recorded) → IfSome start (λ bytes. ReadsRecord Two bytes (Ok r)) → IfSome start (λ bytes. SpellsOne bytes r)
spells None r h = tt
spells (Some bytes) r h = one bytes r h.0

pub refuses : (start : Option (List ℕ)) (e : Refusal) → IfSome start (λ bytes. ReadsRecord Two bytes (Err (errors.Refused e))) → IfSome start (λ bytes. (refusal bytes ≡ Some e) × SpellsNone bytes)
refuses None e h = tt
refuses (Some bytes) e h = (h, none bytes e h)

module _ {A : Type 0} (T : Recorded → A → List ℕ → Type 0) (checkers : ℕ) (input output : Change) where
  -- the record was read, and its trace was written, or that failed
  module _ (r : Recorded) (reads : IfSome input.old.bytes (λ bytes. ReadsRecord Two bytes (Ok r))) (read : TellsDevice {A = Recorded} input (Ok r)) (x : A) (text : List ℕ) (is : T r x text) where
    pub trace_given : (result : Result A AuditError) → WritesPart text output result → IfOk result (λ y. y ≡ x) → IsTraceGiven T checkers input output result
    trace_given (Ok y) part same = record {
      gives = (r, text, subst (λ z. T r z text) (sym same) is, part.bytes, spells input.old.bytes r reads);
      failures = (read, part.device);
    }
    trace_given (Err errors.Device) part same = record { gives = inr (r, x, text, is, part.bytes); failures = inr (read, part.device) }
    trace_given (Err errors.Memory) part same = record { gives = inr (r, x, text, is, part.bytes); failures = (read, part.device) }
    trace_given (Err (errors.Refused e)) part same = absurd part.stop
    trace_given (Err errors.Thread) part same = absurd part.stop
    trace_given (Err errors.Checkers) part same = absurd part.stop

  -- an error with a beginning that was written, or none
  pub trace_stops : (e : AuditError) → IfSome input.old.bytes (λ bytes. ReadsRecord Two bytes (Err e)) → HasBegun T output → TellsFailures {A = A} input output (Err e) → IsAlone e → IsTraceGiven T checkers input output (Err e)
  trace_stops (errors.Refused d) reads begun failures alone = record { gives = (begun, refuses input.old.bytes d reads); failures = failures }
  trace_stops errors.Device reads begun failures alone = record { gives = begun; failures = failures }
  trace_stops errors.Memory reads begun failures alone = record { gives = begun; failures = failures }
  trace_stops errors.Thread reads begun failures alone = absurd alone
  trace_stops errors.Checkers reads begun failures alone = absurd alone

  -- no record was read, and no thread was asked for
  pub trace_unread : (B : Type 0) (e : AuditError) → IfSome input.old.bytes (λ bytes. ReadsRecord Two bytes (Err e)) → TellsDevice {A = B} input (Err e) → IsLone {B = B} (Err e) → AddsNothing output → Works output
      → IsTraceGiven T checkers input output (Err e)
  trace_unread B e reads read alone kept worked = trace_stops e reads (inl kept) (reader_stops B A input output e read worked) (lone e alone)
    where
      lone : (e : AuditError) → IsLone {B = B} (Err e) → IsAlone e
      lone (errors.Refused d) alone = tt
      lone errors.Device alone = tt
      lone errors.Memory alone = tt
      lone errors.Thread alone = absurd (alone.0 refl)
      lone errors.Checkers alone = absurd (alone.1 refl)

  -- the trace of the record that was read
  module _ (r : Recorded) (reads : IfSome input.old.bytes (λ bytes. ReadsRecord Two bytes (Ok r))) (read : TellsDevice {A = Recorded} input (Ok r)) (Is : A → List ℕ → Type 0) (means : (x : A) (text : List ℕ) → Is x text → T r x text) where
    pub trace_of : (result : Result A AuditError) → WritesTrace Is checkers output result → IsTraceGiven T checkers input output result
    trace_of (Ok x) wrote = trace_given r reads read x wrote.0 (means x wrote.0 wrote.1) (Ok x) wrote.2 refl
    trace_of (Err errors.Memory) wrote =
        elim wrote [
          | inl none ↦ record { gives = inl none.0; failures = (read, none.1) }
          | inr some ↦ trace_given r reads read some.0 some.1 (means some.0 some.1 some.2) (Err errors.Memory) some.3 tt
        ]
    trace_of (Err errors.Device) wrote = trace_given r reads read wrote.0 wrote.1 (means wrote.0 wrote.1 wrote.2) (Err errors.Device) wrote.3 tt
    trace_of (Err errors.Thread) wrote = record { gives = (wrote.0, wrote.1); failures = (read, wrote.2) }
    trace_of (Err (errors.Refused d)) wrote = absurd wrote
    trace_of (Err errors.Checkers) wrote = absurd wrote

-- a trace that was written
pub trace_written : {A : Type 0} (Is : A → List ℕ → Type 0) (checkers : ℕ) (output : Change) (x : A) (text : List ℕ) (result : Result A AuditError) → Is x text → WritesPart text output result → IfOk result (λ y. y ≡ x)
    → WritesTrace Is checkers output result
trace_written Is checkers output x text (Ok y) is part same = (text, subst (λ z. Is z text) (sym same) is, part)
trace_written Is checkers output x text (Err errors.Memory) is part same = inr (x, text, is, part)
trace_written Is checkers output x text (Err errors.Device) is part same = (x, text, is, part)
trace_written Is checkers output x text (Err (errors.Refused d)) is part same = absurd part.stop
trace_written Is checkers output x text (Err errors.Thread) is part same = absurd part.stop
trace_written Is checkers output x text (Err errors.Checkers) is part same = absurd part.stop
