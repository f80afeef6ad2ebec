-- What is judged while processors run.
use Rattle.std.specs.Prelude.{◌≡◌, ◌+◌, ◌*◌, ◌%◌, List, [], ◌∷◌, ◌++◌, drop, length, Option}
use mathlib.Core.List.{IsPrefix}
use Rattle.pg_check.specs.Kept.{AreWellFormed}
use Rattle.pg_event.specs.declared.event.Event.{Event}
use Rattle.pg_event.specs.Heads.{Head}
use Rattle.pg_report.specs.declared.team.Team.{Team}
use Rattle.pg_report.specs.Teams.{IsTeam}
use Rattle.pg_runner.specs.Boards.{Desk}
use Rattle.pg_runner.specs.Given.{batch}
use Rattle.pg_runner.specs.declared.batch.Batch.{Batch}
use Rattle.pg_runner.specs.declared.error.RunError.{RunError}
use Rattle.pg_runner.specs.declared.error.RunError.TheVariants as errors

-- these events were judged, and are whole segments
pub record IsWatched (t : Team) (events : List Event) : Type 0 where
  pub team : IsTeam t t.judged.head events
  pub whole : length events % t.judged.head.segment ≡ 0

-- the judges, unless a round was refused, and what was given out and judged
pub record Watch : Type 0 where
  pub team : Option Team
  pub given : List Batch

-- the first of these events were judged, and are whole segments
pub record IsBegun (t : Team) (events : List Event) : Type 0 where
  pub first : List Event
  pub watched : IsWatched t first
  pub begins : IsPrefix first events

-- these events are well formed, and are whole segments
pub record AreSegments (head : Head) (events : List Event) : Type 0 where
  pub well : AreWellFormed head events
  pub whole : length events % head.segment ≡ 0

-- these segments came next to what was known to be given out, and are known now
pub record IsGivenNext (head : Head) (events : List Event) (old new : List Batch) : Type 0 where
  pub segments : AreSegments head events
  pub known : new ≡ old ++ batch events ∷ []

-- these are the next segments of a board, and have been given out
pub record AreNext (old new : Desk) (events : List Event) : Type 0 where
  pub segments : AreSegments old.world.head events
  pub next : IsPrefix events (drop (old.world.taken * old.world.head.segment) old.world.events)
  pub world : new.world ≡ record old.world { taken = new.world.taken }
  pub taken : new.world.taken * old.world.head.segment
      ≡ old.world.taken * old.world.head.segment + length events

-- memory was refused, or a thread
abbrev pub IsWant : RunError → Type 0
IsWant errors.Memory = Unit {0}
IsWant errors.Thread = Unit {0}
IsWant errors.Checkers = ⊥
