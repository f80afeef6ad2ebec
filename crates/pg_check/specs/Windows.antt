-- What a window is of a run.
use Rattle.std.specs.Prelude.{◌≡◌, ℕ, ◌+◌, ◌*◌, ◌%◌, ◌<◌, ◌≤◌, ◌^◌, List, ◌++◌, length, take}
use Rattle.pg_event.specs.declared.event.Event.{Event}
use Rattle.pg_event.specs.Heads.{Head}
use Rattle.pg_event.specs.Spelling.{Recorded, IsHead}
use Rattle.pg_check.specs.declared.window.Window.{Window}
use Rattle.pg_check.specs.Judging.{Noted, HasNoted}
use Rattle.pg_check.specs.Kept.{AreWellFormed}

-- the window is what comes after these events, which are whole segments, of a run under this
-- header
pub record IsNextWindow (head : Head) (before : List Event) (w : Window) : Type 0 where
  pub valid : IsHead head
  pub segment : w.segment ≡ head.segment
  pub first : w.first ≡ length before
  pub whole : length before % head.segment ≡ 0
  pub well : AreWellFormed head w.events.now
  pub limit : length before + length w.events.now < 2 ^ 32

-- the run up to the end of the window
abbrev pub with_window : Head → List Event → Window → Recorded
with_window head before w = record { head = head; events = before ++ w.events.now }

-- these events were noted, and some of the window, from its beginning on
pub record IsAmid (n : Noted) (head : Head) (before : List Event) (w : Window) : Type 0 where
  pub place : ℕ
  pub within : place ≤ length w.events.now
  pub noted : HasNoted n head (before ++ take place w.events.now)

-- a segment with this number begins in the window
abbrev pub HasPart : Window → ℕ → Type 0
HasPart w number = (w.first ≤ number * w.segment)
    × (number * w.segment < w.first + length w.events.now)
