use Rattle.std.proofs.Common.{ℕ, ◌<◌}
use Rattle.pg_span_refute.specs.Words.{IsOverwritten}
use Rattle.pg_span_refute.proofs.words.overwritten_below.Given as goal

abbrev pub invariant-loop-written : goal.invariant-loop-written
invariant-loop-written l = (j : ℕ) → j < l.bound → IsOverwritten l.run l.slot l.writes j
