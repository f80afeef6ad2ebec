-- What checkers that live as long as a run do in a window.
use Rattle.std.specs.Prelude.{◌≡◌, ℕ, ◌+◌, ◌/◌, List, ◌++◌, All, length, map}
use Rattle.std.specs.Int.{div_ceil}
use Rattle.pg_event.specs.declared.event.Event.{Event}
use Rattle.pg_event.specs.Heads.{Head}
use Rattle.pg_event.specs.Spelling.{Recorded}
use Rattle.pg_check.specs.declared.window.Window.{Window}
use Rattle.pg_check.specs.Judging.{Noted, HasNoted}
use Rattle.pg_check.specs.Segments.{segment_verdict}
use Rattle.pg_check.specs.Windows.{HasPart, IsAmid, IsNextWindow, with_window}
use Rattle.pg_pool.specs.declared.round.Round.{Round}
use Rattle.pg_pool.specs.declared.windows.WindowJudged.{WindowJudged}
use Rattle.pg_pool.specs.Rounds.{IsIn, numbers}

-- the numbers of its segments
abbrev pub round_of : Window → Round
round_of w = record {
  first = w.first / w.segment;
  last = div_ceil (w.first + length w.events.now) w.segment;
}

-- each number of the round is that of a segment of the window
abbrev pub HasParts : Round → Window → Type 0
HasParts r w = (n : ℕ) → IsIn r n → HasPart w n

-- the window is the next of a run of which each judge has noted these events
pub record MayJudge (head : Head) (before : List Event) (w : Window) (judges : List Noted) :
    Type 0 where
  pub next : IsNextWindow head before w
  pub noted : All (λ judge. HasNoted judge head before) judges

-- the run ends with the window, and the judge has noted the events before that, and some of it
pub record Fits (w : Window) (run : Recorded) (judge : Noted) : Type 0 where
  pub head : Head
  pub before : List Event
  pub next : IsNextWindow head before w
  pub is : run ≡ with_window head before w
  pub amid : IsAmid judge head before w

-- each segment of the window has its verdict, in order, and each judge has noted all its events
pub record IsWindowJudged (head : Head) (before : List Event) (w : Window) (j : WindowJudged) :
    Type 0 where
  pub round : j.round ≡ round_of w
  pub verdicts : j.verdicts.items
      ≡ map (segment_verdict (with_window head before w)) (numbers (round_of w))
  pub judges : All (λ judge. HasNoted judge head (before ++ w.events.now)) j.judges.items
