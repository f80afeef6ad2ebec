-- What a search sees of a run.
use Rattle.std.specs.Prelude.{ℕ}
use Rattle.pg_event.specs.declared.event.Event.{Event}
use Rattle.pg_event.specs.Spelling.{Recorded}
use Rattle.pg_reach.specs.declared.walker.Walker.{Walker}

-- the run, the event for which somebody walks in it, who does, and the moment from which on it is
-- looked at
pub record Viewed : Type 0 where
  pub run : Recorded
  pub event : Event
  pub walker : Walker
  pub low : ℕ
