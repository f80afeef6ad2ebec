-- What a checker does.
use Rattle.std.specs.Prelude.{◌≡◌, ℕ, true, false, List, All, Contains}
use Rattle.std.specs.List.{flat_map}
use Rattle.pg_check.specs.declared.stretch.Stretch.{Stretch}
use Rattle.pg_pool.specs.declared.round.Round.{Round}
use Rattle.pg_pool.specs.declared.checker.Done.{Done}
use Rattle.pg_pool.specs.declared.numbered_verdict.NumberedVerdict.{NumberedVerdict}
use Rattle.pg_pool.specs.Seats.{Checker, has_taken}
use Rattle.pg_pool.specs.Verdicts.{IsTold, numbers_of}

-- nothing was taken yet
abbrev pub IsFresh : Checker → Type 0
IsFresh c = (n : ℕ) → has_taken c n ≡ false

abbrev pub IsFreshIn : Round → Checker → Type 0
IsFreshIn r c = (c.round ≡ r) × IsFresh c

-- a checker tells of each number that it took, of numbers of the round alone, and what is so
pub record HasJudged {V : Type 0} (tells : ℕ → V → Type 0) (r : Round) (c : Checker)
    (told : List (NumberedVerdict V)) : Type 0 where
  pub round : c.round ≡ r
  pub right : All (IsTold tells r) told
  pub whole : (n : ℕ) → has_taken c n ≡ true → Contains (numbers_of told) n

-- what a checker gives back: it has judged what it took, and keeps what it should
pub record IsDone {B V : Type 0} (keeps : B → Type 0) (tells : ℕ → V → Type 0) (r : Round)
    (d : Done B V) : Type 0 where
  pub judged : HasJudged tells r d.seat d.told.items
  pub kept : keeps d.state

-- what all checkers tell
abbrev pub all_told : {B V : Type 0} → List (Done B V) → List (NumberedVerdict V)
all_told done = flat_map (λ d. d.told.items) done

-- what a round asks: the segments of a stretch that belong to it
pub record Task : Type 0 where
  pub stretch : Stretch
  pub round : Round
