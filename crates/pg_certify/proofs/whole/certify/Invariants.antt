use Rattle.std.proofs.Common.{◌≡◌, ℕ, ◌<◌}
use Rattle.pg_run_of.specs.Converse.{HasMoments}
use Rattle.pg_search.specs.Law.{CanBeWitnessed}
use Rattle.pg_certify.proofs.Gathered.{UpTo}
use Rattle.pg_certify.proofs.whole.certify.Given as goal

abbrev pub invariant-loop-i : goal.invariant-loop-i
invariant-loop-i l = record {
  same : l.certifier ≡ l.history;
  found : UpTo HasMoments l.history.head l.history.events l.i l.found.items;
  before : (k : ℕ) → k < l.i → CanBeWitnessed l.history.head l.history.events k;
}
