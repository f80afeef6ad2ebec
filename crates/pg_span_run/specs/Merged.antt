-- The run with spans that logs of single processors make.
use Rattle.std.specs.Prelude.{◌≡◌, ℕ, ◌+◌, ◌-◌, ◌<◌, ◌≤◌, ◌⊎◌, Bool, ◌==◌, nat_lt}
use Rattle.std.specs.Prelude.{List, length, map}
use Rattle.std.specs.Prelude.{Some, slice_get, slice_index, count_by}
use Rattle.std.specs.List.{All, AllAdjacentBelow, filter}
use Rattle.std.specs.List.Sorted.{IsPermutation}
use Rattle.pg_event.specs.Form.{processor_of}
use Rattle.pg_span_run.specs.Orders.{Spanned}
use Rattle.pg_span_run.specs.declared.log.Stamped.{Stamped}
use Rattle.pg_span_run.specs.Logs.{Logged}
use Rattle.pg_span_run.specs.Runs.{events_of}

-- an event ended before another one, or at the same stamp, and then its processor has no greater
-- number
abbrev pub EndsFirst : Stamped → Stamped → Type 0
EndsFirst x y =
    (x.end < y.end) ⊎ ((x.end ≡ y.end) × (processor_of x.event ≤ processor_of y.event))

-- an event is of this processor
abbrev pub is_of : ℕ → Stamped → Bool
is_of p x = processor_of x.event == p

-- event y had ended when event x began, where both spans are longer on both sides by so many ticks
abbrev pub had_ended : ℕ → Stamped → Stamped → Bool
had_ended error x y = nat_lt (y.end + error) (x.begin - error)

-- a run has these events in their order, and the spans that their stamps say
pub record IsSpelledBy (all : List Stamped) (error : ℕ) (run : Spanned) : Type 0 where
  pub events : run.events ≡ map (λ x. x.event) all
  pub backs : (i : ℕ) (x : Stamped) → slice_get all i ≡ Some x →
      slice_index run.backs i ≡ i - count_by (had_ended error x) all

-- A run is that of logs: it has the events of the logs, each once and no others, as they ended, and
-- those of each log in the log's order.
pub record IsMerged (logs : List Logged) (error : ℕ) (run : Spanned) : Type 0 where
  pub all : List Stamped
  pub same : IsPermutation (events_of logs) all
  pub own : All (λ log. filter (is_of log.head.own) all ≡ log.events) logs
  pub rises : AllAdjacentBelow EndsFirst all (length all)
  pub spelled : IsSpelledBy all error run
