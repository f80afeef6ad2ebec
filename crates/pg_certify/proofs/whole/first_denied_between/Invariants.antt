use Rattle.std.proofs.Common.{◌≡◌, ℕ, ◌<◌}
use Rattle.pg_certify.specs.Segments.{IsBetween}
use Rattle.pg_certify.proofs.Segments.{FoundAt}
use Rattle.pg_certify.proofs.whole.first_denied_between.Given as goal

abbrev pub invariant-loop-i : goal.invariant-loop-i
invariant-loop-i l = record {
  same : l.certifier ≡ l.initial.certifier;
  found : (k : ℕ) → k < l.i → IsBetween l.from l.to k → FoundAt l.history.head l.history.events k;
}
