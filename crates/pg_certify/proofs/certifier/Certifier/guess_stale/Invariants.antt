use Rattle.std.proofs.Common.{◌≡◌}
use Rattle.pg_certify.proofs.certifier.Certifier.guess_stale.Given as goal

abbrev pub invariant-loop-count : goal.invariant-loop-count
invariant-loop-count g l = l.self ≡ l.fn.self
