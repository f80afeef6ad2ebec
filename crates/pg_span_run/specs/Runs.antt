-- Which logs are those of one run, and why others are not.
use Rattle.std.specs.Prelude.{◌≡◌, ◌≢◌, ℕ, ◌<◌, ◌≤◌, ◌^◌, List, [], length, Some, slice_get}
use Rattle.std.specs.List.{All, AllPairs, flat_map}
use Rattle.pg_event.specs.Heads.{Head, most_segment}
use Rattle.pg_span_run.specs.declared.log.LogHeader.{LogHeader}
use Rattle.pg_span_run.specs.declared.log.Stamped.{Stamped}
use Rattle.pg_span_run.specs.declared.log_error.Setting.{Setting}
use Rattle.pg_span_run.specs.declared.log_error.Setting.TheVariants.{Version, Maxphyaddr, Flags}
use Rattle.pg_span_run.specs.declared.log_error.Setting.TheVariants.{Processors}
use Rattle.pg_span_run.specs.declared.log_error.MergeError.{MergeError}
use Rattle.pg_span_run.specs.declared.log_error.MergeError.TheVariants.{NoLogs, Differs, Twice}
use Rattle.pg_span_run.specs.declared.log_error.MergeError.TheVariants.{Missing, TooMany, Memory}
use Rattle.pg_span_run.specs.Logs.{Logged}

abbrev pub AgreesOn : Setting → LogHeader → LogHeader → Type 0
AgreesOn Version a b = a.version ≡ b.version
AgreesOn Maxphyaddr a b = a.cfg.m ≡ b.cfg.m
AgreesOn Flags a b = a.cfg.flags.0 ≡ b.cfg.flags.0
AgreesOn Processors a b = a.processors ≡ b.processors

-- two logs say the same of their run
abbrev pub AreAlike : LogHeader → LogHeader → Type 0
AreAlike a b = (setting : Setting) → AgreesOn setting a b

-- what a log says of the run and of its processor is what the header of the run says
pub record IsPartOf (head : Head) (log : LogHeader) : Type 0 where
  pub version : head.version ≡ log.version
  pub cfg : head.cfg ≡ log.cfg
  pub processors : length head.processors ≡ log.processors
  pub start : slice_get head.processors log.own ≡ Some log.start

-- a log of this processor
pub record HasLogOf (logs : List Logged) (p : ℕ) : Type 0 where
  pub place : ℕ
  pub log : Logged
  pub there : slice_get logs place ≡ Some log
  pub own : log.head.own ≡ p

-- logs of a run with this header: one of each processor
pub record AreOfOneRun (logs : List Logged) (head : Head) : Type 0 where
  pub parts : All (λ log. IsPartOf head log.head) logs
  pub apart : AllPairs (λ a b. a.head.own ≢ b.head.own) logs
  pub whole : (p : ℕ) → p < length head.processors → HasLogOf logs p
  pub segment : head.segment ≡ most_segment

-- all events of the logs, log by log
abbrev pub events_of : List Logged → List Stamped
events_of logs = flat_map (λ log. log.events) logs

-- why logs make no run
abbrev pub Explains : List Logged → MergeError → Type 0
Explains logs NoLogs = logs ≡ []
Explains logs (Differs log setting) =
    (a b : Logged) × (slice_get logs 0 ≡ Some a) × (slice_get logs log ≡ Some b)
    × (AgreesOn setting a.head b.head → ⊥)
Explains logs (Twice first second) =
    (first < second) × (a b : Logged) × (slice_get logs first ≡ Some a)
    × (slice_get logs second ≡ Some b) × (a.head.own ≡ b.head.own)
Explains logs (Missing p) =
    (a : Logged) × (slice_get logs 0 ≡ Some a) × (p < a.head.processors) × (HasLogOf logs p → ⊥)
Explains logs TooMany = 2 ^ 32 ≤ length (events_of logs)
Explains logs Memory = Unit {0}
