-- How many there may be.
use Rattle.std.specs.Prelude.{ℕ, ◌≤◌}

abbrev pub AreFrom1To64 : ℕ → Type 0
AreFrom1To64 n = (1 ≤ n) × (n ≤ 64)
