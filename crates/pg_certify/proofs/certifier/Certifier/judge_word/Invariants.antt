use Rattle.std.proofs.Common.{◌≡◌}
use Rattle.pg_certify.proofs.certifier.Certifier.judge_word.Given as goal

abbrev pub invariant-loop-level : goal.invariant-loop-level
invariant-loop-level g l = l.self ≡ l.fn.self
