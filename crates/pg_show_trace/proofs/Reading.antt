-- What stops a record that is written as it is read.
use Rattle.std.proofs.Common.{◌≡◌, ℕ, List, Option, Some, None, Err, length, inl, inr, sym, subst, ◌∙◌, arith}
use Rattle.std.specs.Prelude.{Result, IfSome}
use Rattle.std.specs.Io.KnownBytes.{Appends}
use Rattle.std.proofs.lemmas.List.{take_all}
use Rattle.pg_event.specs.declared.version.Version.TheVariants.{Two}
use Rattle.pg_event.specs.Heads.{Head}
use Rattle.pg_event.specs.Reading.{header_at}
use Rattle.pg_codec.specs.declared.error.ReadError.{ReadError}
use Rattle.pg_codec.specs.declared.error.ReadError.TheVariants as reads
use Rattle.pg_codec.specs.declared.stage.Stage.{Stage}
use Rattle.pg_codec.specs.declared.stage.Stage.TheVariants.{Start}
use Rattle.pg_codec.specs.declared.stream.Source.{Ghosts as SourceGhosts}
use Rattle.pg_codec.specs.declared.stream.Sink.{Ghosts as SinkGhosts}
use Rattle.pg_codec.specs.Reads.{Pulls}
use Rattle.pg_codec.specs.Readers.{PullsHeader}
use Rattle.pg_codec.specs.Streams.{AppendsSome, raised}
use Rattle.pg_report.specs.declared.error.AuditError.{AuditError}
use Rattle.pg_report.specs.declared.error.AuditError.TheVariants as errors
use Rattle.pg_report.specs.Audits.{ReaderFails, WriterFails, TellsFailures}
use Rattle.pg_report.specs.Changes.{Change, Works, drawn, filled}
use Rattle.pg_report.specs.Intake.{IsErrorOf, ReadsRecord, TellsDevice}
use Rattle.pg_show_trace.specs.Given.{IsAlone, MayStop}

-- what was added is a beginning of it
pub all_as_some : (old new : Option (List ℕ)) (text : List ℕ) → Appends old new text → AppendsSome old new text
all_as_some old new text added = (length text, subst (λ (t : List ℕ). Appends old new t) (sym (take_all (length text) text (omega arith))) added)

-- the reader gave an error, and the writer had none
pub reader_stops : (A B : Type 0) (input output : Change) (e : AuditError) → TellsDevice {A = A} input (Err e) → Works output → TellsFailures {A = B} input output (Err e)
reader_stops A B input output (errors.Refused d) read worked = (read, worked)
reader_stops A B input output errors.Device read worked = inl (read, worked)
reader_stops A B input output errors.Memory read worked = (read, worked)
reader_stops A B input output errors.Thread read worked = (read, worked)
reader_stops A B input output errors.Checkers read worked = (read, worked)

-- the writer stopped, and the reader had no error
pub writer_stops : (A B : Type 0) (input output : Change) (e : AuditError) → Works input → TellsDevice {A = A} output (Err e) → MayStop e → TellsFailures {A = B} input output (Err e)
writer_stops A B input output (errors.Refused d) read wrote stop = absurd stop
writer_stops A B input output errors.Device read wrote stop = inr (read, wrote)
writer_stops A B input output errors.Memory read wrote stop = (read, wrote)
writer_stops A B input output errors.Thread read wrote stop = absurd stop
writer_stops A B input output errors.Checkers read wrote stop = absurd stop

-- such an error says nothing of the bytes
pub stop_reads : (start : Option (List ℕ)) (e : AuditError) → MayStop e → IfSome start (λ bytes. ReadsRecord Two bytes (Err e))
stop_reads None e stop = tt
stop_reads (Some bytes) (errors.Refused d) stop = absurd stop
stop_reads (Some bytes) errors.Device stop = tt
stop_reads (Some bytes) errors.Memory stop = tt
stop_reads (Some bytes) errors.Thread stop = absurd stop
stop_reads (Some bytes) errors.Checkers stop = absurd stop

pub stop_alone : (e : AuditError) → MayStop e → IsAlone e
stop_alone (errors.Refused d) stop = absurd stop
stop_alone errors.Device stop = tt
stop_alone errors.Memory stop = tt
stop_alone errors.Thread stop = absurd stop
stop_alone errors.Checkers stop = absurd stop

pub error_alone : (e : ReadError) (x : AuditError) → IsErrorOf e x → IsAlone x
error_alone (reads.Refused d) x is = subst IsAlone (sym is) tt
error_alone reads.Device x is = subst IsAlone (sym is) tt
error_alone reads.Memory x is = subst IsAlone (sym is) tt
error_alone reads.Failed x is = absurd is

-- a reader at the start pulls the header
pub pulled_at_start : {R : Type 0} (g : SourceGhosts R) (stage : Stage) (at after : List ℕ × R) (result : Result Head ReadError) → stage ≡ Start → PullsHeader g stage at after result → Pulls g header_at at after result
pulled_at_start g stage at after result is h = subst (λ (s : Stage). PullsHeader g s at after result) is h

-- failures of a later part
module _ {R W : Type 0} (r : SourceGhosts R) (w : SinkGhosts W) (s0 s1 s2 : R) (o0 o1 o2 : W) (read : r.failed s1 ≡ r.failed s0) (wrote : w.failed o1 ≡ w.failed o0) where
  reads_on : r.failed s2 ≡ r.failed s1 → r.failed s2 ≡ r.failed s0
  reads_on h = h ∙ read

  writes_on : w.failed o2 ≡ w.failed o1 → w.failed o2 ≡ w.failed o0
  writes_on h = h ∙ wrote

  reader_fails : ReaderFails (drawn r s1 s2) (filled w o1 o2) → ReaderFails (drawn r s0 s2) (filled w o0 o2)
  reader_fails h = (subst (λ (n : ℕ). r.failed s2 ≡ raised n) read h.0, writes_on h.1)

  writer_fails : WriterFails (drawn r s1 s2) (filled w o1 o2) → WriterFails (drawn r s0 s2) (filled w o0 o2)
  writer_fails h = (reads_on h.0, subst (λ (n : ℕ). w.failed o2 ≡ raised n) wrote h.1)

  pub failures_on : (A : Type 0) (e : AuditError) → TellsFailures {A = A} (drawn r s1 s2) (filled w o1 o2) (Err e) → TellsFailures {A = A} (drawn r s0 s2) (filled w o0 o2) (Err e)
  failures_on A (errors.Refused d) h = (reads_on h.0, writes_on h.1)
  failures_on A errors.Device h =
      elim h [
        | inl a ↦ inl (reader_fails a)
        | inr b ↦ inr (writer_fails b)
      ]
  failures_on A errors.Memory h = (reads_on h.0, writes_on h.1)
  failures_on A errors.Thread h = (reads_on h.0, writes_on h.1)
  failures_on A errors.Checkers h = (reads_on h.0, writes_on h.1)
