use Rattle.std.proofs.Common.{◌≡◌}
use Rattle.pg_certify.proofs.certifier.Certifier.guess_changed.Given as goal

abbrev pub invariant-loop-place : goal.invariant-loop-place
invariant-loop-place g l = l.self ≡ l.fn.self
