use Rattle.std.proofs.Common.{◌≡◌}
use Rattle.pg_certify.proofs.certifier.Certifier.guess_changes.Given as goal

abbrev pub invariant-loop : goal.invariant-loop
invariant-loop g l = l.self ≡ l.fn.self
