use Rattle.std.proofs.Common.{ℕ, ◌<◌}
use Rattle.pg_span_refute.specs.Impossible.{NoMemoryGives}
use Rattle.pg_span_refute.proofs.impossible.first_not_given.Given as goal

abbrev pub invariant-loop-number : goal.invariant-loop-number
invariant-loop-number l = (i : ℕ) → i < l.number → NoMemoryGives l.run i → ⊥
