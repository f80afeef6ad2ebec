-- Where the fills of a moment stand among fills in the order of their moments.
use Rattle.std.specs.Prelude.{◌≡◌, ℕ, ◌≤◌, List, [], take, Some, slice_get}
use Rattle.pg_run_of.specs.declared.fill.Fill.{Fill}
use Rattle.pg_run_of.specs.Plan.{fills_at}

-- the fills from number k on are those of moment w and later
pub record IsPlace (fills : List Fill) (w k : ℕ) : Type 0 where
  pub before : (v : ℕ) → w ≤ v → fills_at v (take k fills) ≡ []
  pub after : (j : ℕ) (f : Fill) → k ≤ j → slice_get fills j ≡ Some f → w ≤ f.moment
