use Rattle.std.specs.Prelude.{ℕ}
use Rattle.pg_pool.specs.declared.error.PoolError.{PoolError}
use Rattle.pg_pool.specs.declared.error.PoolError.TheVariants.{Memory, Thread, Checkers}

abbrev pub error_number : PoolError → ℕ
error_number Memory = 1
error_number Thread = 2
error_number Checkers = 3
