-- The first number of a window that passes a test, up to an earlier number.
use Rattle.std.proofs.Common.{ℕ, ◌<◌, ◌≤◌, Bool, Some, None, arith}
use Rattle.pg_inval.specs.Lists.{IsLeastBetween}

pub none-below : (test : ℕ → Bool) (from to most : ℕ) → to ≤ most → IsLeastBetween test from most None → IsLeastBetween test from to None
none-below test from to most within least = λ j low high. least j low (omega (arith, within, high))

pub some-below : (test : ℕ → Bool) (from to most m : ℕ) → m < to → IsLeastBetween test from most (Some m) → IsLeastBetween test from to (Some m)
some-below test from to most m high least = (least.0, high, least.2, least.3)

pub late-below : (test : ℕ → Bool) (from to most m : ℕ) → to ≤ m → IsLeastBetween test from most (Some m) → IsLeastBetween test from to None
late-below test from to most m late least = λ j low high. least.3 j low (omega (arith, late, high))
