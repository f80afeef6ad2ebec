use Rattle.std.proofs.Common.{◌≡◌}
use Rattle.pg_certify.proofs.certifier.Certifier.guess_mapped.Given as goal

abbrev pub invariant-loop-moment : goal.invariant-loop-moment
invariant-loop-moment g l = l.self ≡ l.fn.self
