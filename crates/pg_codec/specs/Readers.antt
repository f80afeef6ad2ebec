-- What a reader of records is seen as.
use Rattle.std.specs.Prelude.{◌≡◌, ℕ, ◌+◌, ◌==◌, ◌≤◌, ◌<◌, ◌^◌, true, List, length, Option, Some}
use Rattle.std.specs.Prelude.{None}
use Rattle.std.specs.Prelude.{Result, Ok, Err}
use Rattle.std.specs.List.{AllByRecursion}
use Rattle.pg_event.specs.Form.{broken_rule}
use Rattle.pg_event.specs.declared.event.Event.{Event}
use Rattle.pg_event.specs.Heads.{Head}
use Rattle.pg_event.specs.Reading.{Part, header_at, segment_at, chunk_at}
use Rattle.pg_codec.specs.declared.error.ReadError.{ReadError}
use Rattle.pg_codec.specs.declared.stage.Progress.{Progress}
use Rattle.pg_codec.specs.declared.stage.Stage.{Stage}
use Rattle.pg_codec.specs.declared.stage.Stage.TheVariants.{Start, Segments, Ended, Refused}
use Rattle.pg_codec.specs.declared.stream.Source.{Ghosts}
use Rattle.pg_codec.specs.Parts.{closed_chunk_at, old_header_at}
use Rattle.pg_codec.specs.Reads.{Pulls}

-- what it pulled and has not read, and where it stands
pub record Reader : Type 0 where
  pub unread : List ℕ
  pub stage : Stage

-- where a reader stands after the header
abbrev pub behind_header : Head → Stage
behind_header head = Segments (record { header = head; number = 0; before = 0; full = true })

abbrev pub stage_after_header : Result Head ReadError → Stage
stage_after_header (Ok head) = behind_header head
stage_after_header (Err e) = Refused

-- where a reader stands after a segment, or the end
abbrev pub behind_chunk : Progress → Option (List Event) → Stage
behind_chunk p None = Ended
behind_chunk p (Some events) = Segments (record {
  header = p.header;
  number = p.number + 1;
  before = p.before + length events;
  full = length events == p.header.segment;
})

abbrev pub stage_after_chunk : Stage → Result (Option (List Event)) ReadError → Stage
stage_after_chunk (Segments p) (Ok chunk) = behind_chunk p chunk
stage_after_chunk (Segments p) (Err e) = Refused
stage_after_chunk Start result = Refused
stage_after_chunk Ended result = Refused
stage_after_chunk Refused result = Refused

-- the header is read first and once; a reader that refused may be asked again
abbrev pub MayReadHeader : Stage → Type 0
MayReadHeader Start = Unit {0}
MayReadHeader Refused = Unit {0}
MayReadHeader (Segments p) = ⊥
MayReadHeader Ended = ⊥

-- a segment is read after the header and before the end; a reader that refused may be asked again
abbrev pub MayReadSegment : Stage → Type 0
MayReadSegment (Segments p) = Unit {0}
MayReadSegment Refused = Unit {0}
MayReadSegment Start = ⊥
MayReadSegment Ended = ⊥

-- the segment that comes next, after its tag
abbrev pub next_segment_at : Progress → List ℕ → Part (List Event)
next_segment_at p = segment_at p.header p.number p.before

-- the segment that comes next, or none at the end mark
abbrev pub next_chunk_at : Progress → List ℕ → Part (Option (List Event))
next_chunk_at p = chunk_at p.header p.number p.before p.full

-- the segment that comes next, or none at the end mark and the end of the bytes
abbrev pub next_closed_chunk_at : Progress → List ℕ → Part (Option (List Event))
next_closed_chunk_at p = closed_chunk_at p.header p.number p.before p.full

-- where a reader stands at the start, the call pulls the header
abbrev pub PullsHeader : {R : Type 0} → Ghosts R → Stage → List ℕ × R → List ℕ × R →
    Result Head ReadError → Type 0
PullsHeader g Start old new result = Pulls g header_at old new result
PullsHeader g (Segments p) old new result = Unit {0}
PullsHeader g Ended old new result = Unit {0}
PullsHeader g Refused old new result = Unit {0}

-- where a reader stands at the start, the call pulls the header of a version 1 record
abbrev pub PullsOldHeader : {R : Type 0} → Ghosts R → Stage → List ℕ × R → List ℕ × R →
    Result Head ReadError → Type 0
PullsOldHeader g Start old new result = Pulls g old_header_at old new result
PullsOldHeader g (Segments p) old new result = Unit {0}
PullsOldHeader g Ended old new result = Unit {0}
PullsOldHeader g Refused old new result = Unit {0}

-- where a reader stands before a segment, the call pulls it, or the end
abbrev pub PullsSegment : {R : Type 0} → Ghosts R → Stage → List ℕ × R → List ℕ × R →
    Result (Option (List Event)) ReadError → Type 0
PullsSegment g (Segments p) old new result = Pulls g (next_closed_chunk_at p) old new result
PullsSegment g Start old new result = Unit {0}
PullsSegment g Ended old new result = Unit {0}
PullsSegment g Refused old new result = Unit {0}

-- a segment that may come next: some well-formed events, no more than a segment holds, and not too
-- many with those before
pub record IsSegment (p : Progress) (events : List Event) : Type 0 where
  pub some : 1 ≤ length events
  pub fits : length events ≤ p.header.segment
  pub limit : p.before + length events < 2 ^ 32
  pub well : AllByRecursion (λ e. broken_rule p.header e ≡ None) events

-- a segment that may come after those that were read: the last of them was full
abbrev pub MayCome : Progress → List Event → Type 0
MayCome p events = (p.full ≡ true) × IsSegment p events

-- a segment that may come where a reader stands
abbrev pub IsNext : Stage → Option (List Event) → Type 0
IsNext (Segments p) (Some events) = MayCome p events
IsNext (Segments p) None = Unit {0}
IsNext Start chunk = Unit {0}
IsNext Ended chunk = Unit {0}
IsNext Refused chunk = Unit {0}

-- what a reader keeps of where it stands
abbrev pub IsSound : Stage → Type 0
IsSound (Segments p) = (p.header.cfg.m ≤ 52) × (p.number ≤ p.before)
IsSound Start = Unit {0}
IsSound Ended = Unit {0}
IsSound Refused = Unit {0}
