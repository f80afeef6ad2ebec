-- Numbers and names of refused runs.
use Rattle.std.specs.Prelude.{ℕ, List, codes}
use Rattle.pg_runner.specs.declared.error.RunError.{RunError}
use Rattle.pg_runner.specs.declared.error.RunError.TheVariants.{Memory, Thread, Checkers}

abbrev pub error_number : RunError → ℕ
error_number Memory = 1
error_number Thread = 2
error_number Checkers = 3

abbrev pub error_name : RunError → List ℕ
error_name Memory = codes "memory"
error_name Thread = codes "thread refused"
error_name Checkers = codes "checkers"
