-- Parts of a text that are written one after another.
use Rattle.std.proofs.Common.{◌≡◌, ℕ, List, [], ◌++◌, Ok, Err, refl, subst}
use Rattle.std.specs.Prelude.{Result, IfErr}
use Rattle.pg_codec.specs.declared.stream.Sink.{Ghosts}
use Rattle.pg_codec.specs.Streams.{FailsWithDevice}
use Rattle.pg_codec.proofs.Written.{appends_none, appends_some_after, writes_after}
use Rattle.pg_report.specs.declared.error.AuditError.{AuditError}
use Rattle.pg_report.specs.declared.error.AuditError.TheVariants as errors
use Rattle.pg_report.specs.Audits.{WritesText}
use Rattle.pg_report.specs.Changes.{Change, filled}
use Rattle.pg_report.specs.Intake.{TellsDevice, is_device}
use Rattle.pg_show_trace.specs.Given.{WritesPart}

module _ {W : Type 0} (g : Ghosts W) where
  -- a text that was made before it was written
  pub part_written : {A : Type 0} (old new : W) (text : List ℕ) (result : Result A AuditError) → WritesText (filled g old new) text result → IfErr result (λ e. e ≡ errors.Device) → TellsDevice (filled g old new) result
      → WritesPart text (filled g old new) result
  part_written old new text (Ok x) wrote only device = record { bytes = wrote; device = device; stop = tt }
  part_written old new text (Err errors.Device) wrote only device = record { bytes = wrote; device = device; stop = tt }
  part_written old new text (Err errors.Memory) wrote only device = absurd cc
  part_written old new text (Err (errors.Refused e)) wrote only device = absurd wrote
  part_written old new text (Err errors.Thread) wrote only device = absurd wrote
  part_written old new text (Err errors.Checkers) wrote only device = absurd wrote

  -- memory ran out before
  pub part_unmade : {A : Type 0} (w : W) (text : List ℕ) → WritesPart {A = A} text (filled g w w) (Err errors.Memory)
  part_unmade w text = record { bytes = (0, appends_none (g.held w)); device = refl; stop = tt }

  -- one part, and what came of the next
  pub part_then : {A B : Type 0} (old mid new : W) (text next : List ℕ) (x : A) (result : Result B AuditError) → WritesPart text (filled g old mid) (Ok x) → WritesPart next (filled g mid new) result
      → WritesPart (text ++ next) (filled g old new) result
  part_then old mid new text next x result first second = record {
    bytes = writes_after (g.held old) (g.held mid) (g.held new) result text next first.bytes second.bytes;
    device = subst (λ (f : ℕ). FailsWithDevice is_device f (g.failed new) result) first.device second.device;
    stop = second.stop;
  }

  -- a part that failed
  pub part_stops : {A B : Type 0} (old new : W) (text next : List ℕ) (e : AuditError) → WritesPart {A = A} text (filled g old new) (Err e) → WritesPart {A = B} (text ++ next) (filled g old new) (Err e)
  part_stops old new text next e part = record {
    bytes = appends_some_after (g.held old) (g.held old) (g.held new) [] text next (appends_none (g.held old)) part.bytes;
    device = part.device;
    stop = part.stop;
  }

-- a result of another type
pub part_told : {A B : Type 0} (output : Change) (text : List ℕ) (x : A) (y : B) → WritesPart text output (Ok x) → WritesPart text output (Ok y)
part_told output text x y part = record { bytes = part.bytes; device = part.device; stop = tt }

pub part_failed : {A B : Type 0} (output : Change) (text : List ℕ) (e : AuditError) → WritesPart {A = A} text output (Err e) → WritesPart {A = B} text output (Err e)
part_failed output text e part = record { bytes = part.bytes; device = part.device; stop = part.stop }

-- the same text by another equation
pub part_is : {A : Type 0} (output : Change) (text other : List ℕ) (result : Result A AuditError) → text ≡ other → WritesPart text output result → WritesPart other output result
part_is output text other result is part = subst (λ (t : List ℕ). WritesPart t output result) is part
