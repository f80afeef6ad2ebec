-- A record that is on the way: what of it was read, and judged but for a window.
use Rattle.std.specs.Prelude.{◌≡◌, ℕ, ◌%◌, ◌<◌, ◌≤◌, ◌^◌, Bool, true, false, List, ◌++◌, length}
use Rattle.std.specs.Prelude.{Option, Some, None, Ok, IfSome}
use Rattle.pg_event.specs.declared.event.Event.{Event}
use Rattle.pg_event.specs.declared.version.Version.{Version}
use Rattle.pg_event.specs.declared.version.Version.TheVariants.{Two}
use Rattle.pg_event.specs.Heads.{Head}
use Rattle.pg_event.specs.Spelling.{Recorded}
use Rattle.pg_event.specs.Reading.{◌>>=◌, Part, chunks_at, header_at}
use Rattle.pg_codec.specs.declared.stage.Stage.{Stage}
use Rattle.pg_codec.specs.declared.stage.Stage.TheVariants.{Segments}
use Rattle.pg_codec.specs.declared.stream.Source.{Ghosts}
use Rattle.pg_codec.specs.Reads.{left_in, Took}
use Rattle.pg_check.specs.Judging.{Findings, IsJudged}
use Rattle.pg_check.specs.Kept.{AreWellFormed}
use Rattle.pg_report.specs.Intake.{is_too_new}
use Rattle.pg_report.specs.Judging.{BeginsSegment}

-- the events that were read before, and those that are still read
abbrev pub with_front : List Event → Part (List Event) → Part (List Event)
with_front front part = part >>= λ x. Ok (front ++ x.0, x.1)

-- what is still to be read of a record, after these events
pub record IsRest (head : Head) (front : List Event) (number : ℕ) (full : Bool) (left : List ℕ)
    (total : Part (List Event)) : Type 0 where
  pub bound : ℕ
  pub long : length left ≤ bound
  pub same : with_front front (chunks_at bound head number (length front) full left) ≡ total

-- so far the header and these events were read from the front of the bytes, and these are left
pub record IsReading (head : Head) (front : List Event) (number : ℕ) (full : Bool)
    (bytes left : List ℕ) : Type 0 where
  pub after_header : List ℕ
  pub header : header_at bytes ≡ Ok (head, after_header)
  pub rest : IsRest head front number full left
      (chunks_at (length bytes) head 0 0 true after_header)

-- the header and these events were read from the front of what was left at the start
abbrev pub Continues :
    Head → List Event → ℕ → Bool → Option (List ℕ) → Option (List ℕ) → Type 0
Continues head front number full None left = Unit {0}
Continues head front number full (Some bytes) None = ⊥
Continues head front number full (Some bytes) (Some left) =
    IsReading head front number full bytes left

-- a record on the way, of a source that had these bytes and failures at the start: where the reader
-- stands, what it has left, and what was read
pub record IsGoing {R : Type 0} (g : Ghosts R) (newest : Version) (start : Option (List ℕ)) (f : ℕ)
    (at : List ℕ × R) (stage : Stage) (r : Recorded) (segments : ℕ) : Type 0 where
  pub number : ℕ
  pub full : Bool
  pub stage_is : stage ≡ Segments (record {
    header = r.head;
    number = number;
    before = length r.events;
    full = full;
  })
  pub old : IfSome start (λ bytes. is_too_new newest bytes ≡ false)
  pub continues : Continues r.head r.events number full start (left_in g at)
  pub took : Took start (left_in g at)
  pub failed : g.failed at.1 ≡ f
  pub count : segments ≤ length r.events
  pub few : length r.events < 2 ^ 32
  pub whole : full ≡ true → length r.events % r.head.segment ≡ 0

-- what was read was judged, but for a window
pub record IsJudging {R : Type 0} (g : Ghosts R) (start : Option (List ℕ)) (f : ℕ)
    (at : List ℕ × R) (stage : Stage) (judged : Findings) (window : List Event)
    (segments : ℕ) : Type 0 where
  pub before : List Event
  pub judges : IsJudged judged judged.head before
  pub well : AreWellFormed judged.head window
  pub whole : BeginsSegment judged window
  pub going : IsGoing g Two start f at stage
      (record { head = judged.head; events = before ++ window }) segments
