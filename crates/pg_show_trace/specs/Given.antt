-- What writing a trace leaves. It is written as it is made: where the record is refused, or memory
-- or a device fails, a beginning of a trace may stand there.
use Rattle.std.specs.Prelude.{◌≡◌, ◌≢◌, ◌⊎◌, ℕ, List, Option, Some, Result, Ok, Err, IfErr, IfSome}
use Rattle.pg_event.specs.declared.event.Event.{Event}
use Rattle.pg_event.specs.declared.version.Version.TheVariants.{Two}
use Rattle.pg_event.specs.Heads.{Head}
use Rattle.pg_event.specs.Reading.{refusal}
use Rattle.pg_event.specs.Spelling.{Recorded}
use Rattle.pg_codec.specs.Streams.{Writes}
use Rattle.pg_report.specs.declared.error.AuditError.{AuditError}
use Rattle.pg_report.specs.declared.error.AuditError.TheVariants.{Refused, Device, Memory}
use Rattle.pg_report.specs.declared.error.AuditError.TheVariants.{Thread, Checkers}
use Rattle.pg_report.specs.Audits.{SpellsOne, SpellsNone, TellsFailures}
use Rattle.pg_report.specs.Changes.{Change, Works, Adds, AddsSome, AddsNothing}
use Rattle.pg_report.specs.Intake.{ReadsRecord, TellsDevice}

-- only memory or the device stops a writing
abbrev pub MayStop : AuditError → Type 0
MayStop (Refused e) = ⊥
MayStop Device = Unit {0}
MayStop Memory = Unit {0}
MayStop Thread = ⊥
MayStop Checkers = ⊥

-- this text was added, or a beginning of it where memory or the device failed
pub record WritesPart {A : Type 0} (text : List ℕ) (output : Change)
    (result : Result A AuditError) : Type 0 where
  pub bytes : Writes output.old.bytes output.new.bytes result text
  pub device : TellsDevice output result
  pub stop : IfErr result MayStop

-- these are the events behind a header, of what was left at the start; or reading that ends with
-- this error, and then nothing is said of the events
abbrev pub ReadsBehind : {A : Type 0} → Head → Option (List ℕ) → List Event →
    Result A AuditError → Type 0
ReadsBehind head start events (Ok x) =
    IfSome start (λ bytes. ReadsRecord Two bytes (Ok (record { head = head; events = events })))
ReadsBehind head start events (Err e) = IfSome start (λ bytes. ReadsRecord Two bytes (Err e))

-- no thread is taken
abbrev pub IsAlone : AuditError → Type 0
IsAlone (Refused e) = Unit {0}
IsAlone Device = Unit {0}
IsAlone Memory = Unit {0}
IsAlone Thread = ⊥
IsAlone Checkers = ⊥

-- this text was added as it was read, or a beginning of it where reading or writing failed
pub record WritesRead {A : Type 0} (text : List ℕ) (input output : Change)
    (result : Result A AuditError) : Type 0 where
  pub bytes : Writes output.old.bytes output.new.bytes result text
  pub failures : TellsFailures input output result
  pub alone : IfErr result IsAlone

module _ {A : Type 0} (IsTraceOf : Recorded → A → List ℕ → Type 0) where
  -- nothing was added, or a beginning of the trace of a record
  abbrev pub HasBegun : Change → Type 0
  HasBegun output =
      AddsNothing output
      ⊎ ((r : Recorded) × (x : A) × (text : List ℕ) × IsTraceOf r x text × AddsSome output text)

  -- The trace of the record was added, which alone the bytes spell, where they are known; or they
  -- spell none, and this is the first refusal. A thread is refused before anything is written, and
  -- only where there are several checkers.
  abbrev pub GivesTrace : ℕ → Change → Change → Result A AuditError → Type 0
  GivesTrace checkers input output (Ok x) =
      (r : Recorded) × (text : List ℕ) × IsTraceOf r x text × Adds output text
      × IfSome input.old.bytes (λ bytes. SpellsOne bytes r)
  GivesTrace checkers input output (Err (Refused e)) =
      HasBegun output
      × IfSome input.old.bytes (λ bytes. (refusal bytes ≡ Some e) × SpellsNone bytes)
  GivesTrace checkers input output (Err Memory) = HasBegun output
  GivesTrace checkers input output (Err Device) = HasBegun output
  GivesTrace checkers input output (Err Thread) = (checkers ≢ 1) × AddsNothing output
  GivesTrace checkers input output (Err Checkers) = ⊥

  pub record IsTraceGiven (checkers : ℕ) (input output : Change)
      (result : Result A AuditError) : Type 0 where
    pub gives : GivesTrace checkers input output result
    pub failures : TellsFailures input output result

-- The trace of a record that was read, and judged by so many checkers: it was added, or a beginning
-- of it; or memory or a thread was refused before anything was.
abbrev pub WritesTrace : {A : Type 0} → (A → List ℕ → Type 0) → ℕ → Change →
    Result A AuditError → Type 0
WritesTrace IsTraceOf checkers output (Ok x) =
    (text : List ℕ) × IsTraceOf x text × WritesPart text output (Ok x)
WritesTrace {A} IsTraceOf checkers output (Err Memory) =
    (AddsNothing output × Works output)
    ⊎ ((x : A) × (text : List ℕ) × IsTraceOf x text × WritesPart {A = A} text output (Err Memory))
WritesTrace {A} IsTraceOf checkers output (Err Device) =
    (x : A) × (text : List ℕ) × IsTraceOf x text × WritesPart {A = A} text output (Err Device)
WritesTrace IsTraceOf checkers output (Err Thread) =
    (checkers ≢ 1) × AddsNothing output × Works output
WritesTrace IsTraceOf checkers output (Err (Refused e)) = ⊥
WritesTrace IsTraceOf checkers output (Err Checkers) = ⊥
