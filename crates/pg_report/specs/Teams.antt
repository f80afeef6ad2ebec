-- The judges of a run that several checkers judge.
use Rattle.std.specs.Prelude.{◌≡◌, ◌+◌, ◌<◌, ◌^◌, List, All, length, vec_len}
use Rattle.pg_event.specs.declared.event.Event.{Event}
use Rattle.pg_event.specs.Heads.{Head}
use Rattle.pg_event.specs.Spelling.{IsHead}
use Rattle.pg_event.specs.Witness.{first_bad}
use Rattle.pg_check.specs.declared.judged.Tally.{Tally}
use Rattle.pg_check.specs.declared.window.Window.{Window}
use Rattle.pg_check.specs.Judging.{HasNoted, IsJudged}
use Rattle.pg_check.specs.Kept.{AreWellFormed}
use Rattle.pg_check.specs.Windows.{IsNextWindow}
use Rattle.pg_pool.specs.declared.windows.WindowJudged.{WindowJudged}
use Rattle.pg_pool.specs.Windows.{IsWindowJudged}
use Rattle.pg_report.specs.declared.team.Team.{Team}
use Rattle.pg_report.specs.Judging.{BeginsSegment}

-- the events of a run were judged, and each of at most 64 judges has noted them
pub record IsTeam (t : Team) (head : Head) (events : List Event) : Type 0 where
  pub valid : IsHead head
  pub judged : IsJudged t.judged head events
  pub others : All (λ judge. HasNoted judge head events) t.others.items
  pub few : vec_len t.others < 64

-- these events may come next: they are well formed, not too many, and begin a segment
pub record MayGoOn (t : Team) (more : List Event) : Type 0 where
  pub before : List Event
  pub team : IsTeam t t.judged.head before
  pub well : AreWellFormed t.judged.head more
  pub limit : length before + length more < 2 ^ 32
  pub whole : BeginsSegment t.judged more

-- the events before a window were judged, and this is what a round over the window gave
pub record HasOutcome (t : Tally) (head : Head) (before : List Event) (w : Window)
    (judged : WindowJudged) : Type 0 where
  pub settings : t.header ≡ head
  pub count : t.count ≡ length before
  pub first_bad : t.first_bad ≡ first_bad head before
  pub next : IsNextWindow head before w
  pub is : IsWindowJudged head before w judged
