-- What a stretch is of a record.
use Rattle.std.specs.Prelude.{◌≡◌, ℕ, ◌*◌, ◌<◌, ◌≤◌, ◌^◌, length, drop}
use Rattle.pg_event.specs.Spelling.{Recorded, IsHead, segment_count}
use Rattle.pg_chain.specs.Standing.{IsPast}
use Rattle.pg_check.specs.declared.stretch.Stretch.{Stretch}
use Rattle.pg_check.specs.Kept.{AreWellFormed}

-- the events are the last ones of a record, and the past is that of all its events
pub record IsStretch (s : Stretch) (r : Recorded) : Type 0 where
  pub past : IsPast s.past.now r.head r.events
  pub segment : s.segment ≡ r.head.segment
  pub first : s.first ≤ length r.events
  pub events : s.events.now ≡ drop s.first r.events
  pub head : IsHead r.head
  pub well : AreWellFormed r.head s.events.now
  pub count : length r.events < 2 ^ 32

-- a segment of the record begins in the stretch
pub record HasSegment (s : Stretch) (k : ℕ) : Type 0 where
  pub of : Recorded
  pub stretch : IsStretch s of
  pub starts : s.first ≤ k * s.segment
  pub within : k < segment_count of

-- the segments from one number on and below another begin in the stretch
pub record HasSegments (s : Stretch) (first last : ℕ) : Type 0 where
  pub of : Recorded
  pub stretch : IsStretch s of
  pub starts : s.first ≤ first * s.segment
  pub ordered : first ≤ last
  pub within : last ≤ segment_count of
