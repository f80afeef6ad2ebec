-- What the verdicts of a round's segments tell.
use Rattle.std.specs.Prelude.{ℕ, List, Option, Ok, map}
use Rattle.pg_event.specs.declared.event.Reason.{Reason}
use Rattle.pg_event.specs.Spelling.{Recorded}
use Rattle.pg_check.specs.declared.stretch.SegmentVerdict.{SegmentVerdict}
use Rattle.pg_check.specs.Segments.{segment_verdict}
use Rattle.pg_pool.specs.declared.round.Round.{Round}
use Rattle.pg_pool.specs.Rounds.{numbers}
use Rattle.pg_report.specs.Merging.{Merges}
use Rattle.pg_report.specs.Text.{verdict_of}

-- the verdicts of a round's segments, in order
abbrev pub round_verdicts : Recorded → Round → List SegmentVerdict
round_verdicts r round = map (segment_verdict r) (numbers round)

-- this is the first bad event that they tell
abbrev pub IsFoundIn : Recorded → Round → Option (ℕ × Reason) → Type 0
IsFoundIn r round found = Merges round (round_verdicts r round) (Ok (verdict_of found))
