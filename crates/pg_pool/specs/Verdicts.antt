-- What is told of the segments of a round.
use Rattle.std.specs.Prelude.{◌≡◌, ℕ, ◌-◌, List, fold, length, map, slice_index_or, slice_set}
use Rattle.pg_pool.specs.declared.round.Round.{Round}
use Rattle.pg_pool.specs.declared.numbered_verdict.NumberedVerdict.{NumberedVerdict}
use Rattle.pg_pool.specs.Rounds.{IsIn}

-- it is of a segment of the round, and so
abbrev pub IsTold : {V : Type 0} → (ℕ → V → Type 0) → Round → NumberedVerdict V → Type 0
IsTold tells r t = IsIn r t.number × tells t.number t.verdict

-- of which segments something is told
abbrev pub numbers_of : {V : Type 0} → List (NumberedVerdict V) → List ℕ
numbers_of told = map (λ t. t.number) told

-- once more is told, each at the place of its number
abbrev pub placed : {V : Type 0} → ℕ → List V → List (NumberedVerdict V) → List V
placed first old told = fold (λ all t. slice_set all (t.number - first) t.verdict) old told

-- each segment of a round has its place, in order, where what stands there is so of it
pub record AreVerdicts {V : Type 0} (tells : ℕ → V → Type 0) (r : Round) (verdicts : List V) :
    Type 0 where
  pub len : length verdicts ≡ r.last - r.first
  pub each : (n : ℕ) (d : V) → IsIn r n → tells n (slice_index_or verdicts (n - r.first) d)
