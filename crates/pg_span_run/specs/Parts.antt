-- What parts of a merge make.
use Rattle.std.specs.Prelude.{◌≡◌, ◌≢◌, ℕ, ◌<◌, Bool, ◌&&◌, ◌==◌, List, length, Some, slice_get}
use Rattle.std.specs.Prelude.{slice_index_or}
use Rattle.std.specs.List.{filter}
use Rattle.pg_span_run.specs.declared.log.LogHeader.{LogHeader}
use Rattle.pg_span_run.specs.declared.log.Stamped.{Stamped}
use Rattle.pg_span_run.specs.Logs.{Logged, IsLog}
use Rattle.pg_span_run.specs.Runs.{AreAlike}
use Rattle.pg_span_run.specs.Merged.{is_of}

-- a log that says of its run what a header says
pub record IsLike (header : LogHeader) (log : Logged) : Type 0 where
  pub alike : AreAlike header log.head
  pub is : IsLog log

-- the first log of a processor
pub record IsFirstOf (logs : List Logged) (p place : ℕ) : Type 0 where
  pub log : Logged
  pub within : place < length logs
  pub there : slice_get logs place ≡ Some log
  pub own : log.head.own ≡ p
  pub before : (k : ℕ) (d : Logged) → k < place → (slice_index_or logs k d).head.own ≢ p

-- a processor starts as its log says
pub record IsStartOf (logs : List Logged) (starts : List (ℕ × Bool)) (p : ℕ) : Type 0 where
  pub place : ℕ
  pub log : Logged
  pub there : slice_get logs place ≡ Some log
  pub own : log.head.own ≡ p
  pub start : slice_get starts p ≡ Some log.head.start

-- so many processors do
pub record AreStarts (logs : List Logged) (processors : ℕ) (starts : List (ℕ × Bool)) : Type 0 where
  pub count : length starts ≡ processors
  pub each : (p : ℕ) → p < processors → IsStartOf logs starts p

-- events of one processor that ended at the same stamp stand as they did
abbrev pub KeepsTies : List Stamped → List Stamped → Type 0
KeepsTies old new = (p end : ℕ) → filter (λ x. x.end == end && is_of p x) new
    ≡ filter (λ x. x.end == end && is_of p x) old
