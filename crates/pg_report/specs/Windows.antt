-- A record on the way that is read window by window, one window ahead of those that are judged.
use Rattle.std.specs.Prelude.{◌≡◌, ◌⊎◌, ℕ, ◌+◌, ◌%◌, ◌^◌, ◌<◌, Bool, List, [], ◌++◌}
use Rattle.std.specs.Prelude.{length, Option, Result, Ok, Err, IfSome, IfOk, IfErr, MatchBool}
use Rattle.pg_event.specs.declared.event.Event.{Event}
use Rattle.pg_event.specs.declared.version.Version.TheVariants.{Two}
use Rattle.pg_event.specs.Spelling.{Recorded}
use Rattle.pg_codec.specs.declared.stage.Stage.{Stage}
use Rattle.pg_codec.specs.declared.stream.Source.{Ghosts}
use Rattle.pg_codec.specs.Streams.{FailsWithDevice}
use Rattle.pg_check.specs.Judging.{Findings, IsJudged}
use Rattle.pg_check.specs.Kept.{AreWellFormed}
use Rattle.pg_report.specs.declared.error.AuditError.{AuditError}
use Rattle.pg_report.specs.declared.team.Team.{Team}
use Rattle.pg_report.specs.Going.{IsGoing, IsJudging}
use Rattle.pg_report.specs.Intake.{ReadsRecord, is_device}
use Rattle.pg_report.specs.Judging.{JudgesRecord}
use Rattle.pg_report.specs.Teams.{IsTeam}

-- a record with more events
abbrev pub with_more : Recorded → List Event → Recorded
with_more r more = record { head = r.head; events = r.events ++ more }

-- events that may be judged behind those of a record: they are well formed and not too many, and
-- begin a segment if there are any
pub record IsWindow (r : Recorded) (window : List Event) : Type 0 where
  pub well : AreWellFormed r.head window
  pub whole : (window ≡ []) ⊎ (length r.events % r.head.segment ≡ 0)
  pub few : length r.events + length window < 2 ^ 32

-- a record was read to its end, if the reader tells what was left
abbrev pub IsAll : Option (List ℕ) → Recorded → Type 0
IsAll start r = IfSome start (λ bytes. ReadsRecord Two bytes (Ok r))

-- A call reads a window of a record on the way, of which so much was read before: it answers
-- whether there is more, or the reader's error.
pub record ReadsWindow {R : Type 0} (g : Ghosts R) (start : Option (List ℕ)) (f : ℕ) (r : Recorded)
    (windows : ℕ) (at : List ℕ × R) (stage : Stage) (window : List Event)
    (result : Result Bool AuditError) : Type 0 where
  pub fits : IfOk result (λ more. IsWindow r window)
  pub goes : IfOk result (λ more. MatchBool more
      (IsGoing g Two start f at stage (with_more r window) (windows + 1))
      (IsAll start (with_more r window)))
  pub fails : IfErr result (λ e. JudgesRecord start (Err e))
  pub device : FailsWithDevice is_device f (g.failed at.1) result

-- a record was read to its end, and judged but for a window
pub record IsLast (start : Option (List ℕ)) (judged : Findings) (window : List Event) : Type 0 where
  pub before : List Event
  pub judges : IsJudged judged judged.head before
  pub fits : IsWindow (record { head = judged.head; events = before }) window
  pub all : IsAll start (record { head = judged.head; events = before ++ window })

-- what was read was judged by a team, but for a window
pub record IsTeamJudging {R : Type 0} (g : Ghosts R) (start : Option (List ℕ)) (f : ℕ)
    (at : List ℕ × R) (stage : Stage) (team : Team) (window : List Event) (segments : ℕ) :
    Type 0 where
  pub judging : IsJudging g start f at stage team.judged window segments
  pub alike : IsTeam team team.judged.head judging.before

-- a record was read to its end, and judged by a team but for a window
pub record IsTeamLast (start : Option (List ℕ)) (team : Team) (window : List Event) : Type 0 where
  pub last : IsLast start team.judged window
  pub alike : IsTeam team team.judged.head last.before

-- A call judges the window that waits and reads the next: it answers whether there is more behind
-- that, with the team after it, or an error.
pub record GoesOn {R : Type 0} (g : Ghosts R) (start : Option (List ℕ)) (f : ℕ) (at : List ℕ × R)
    (stage : Stage) (next : List Event) (windows : ℕ) (result : Result (Team × Bool) AuditError) :
    Type 0 where
  pub waits : IfOk result (λ r. MatchBool r.1
      (IsTeamJudging g start f at stage r.0 next windows) (IsTeamLast start r.0 next))
  pub fails : IfErr result (λ e. JudgesRecord start (Err e))
  pub device : FailsWithDevice is_device f (g.failed at.1) result
