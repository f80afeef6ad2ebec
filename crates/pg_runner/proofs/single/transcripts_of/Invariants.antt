use Rattle.std.proofs.Common.{◌≡◌, map}
use Rattle.pg_runner.proofs.single.transcripts_of.Given as goal

abbrev pub invariant-loop-processor : goal.invariant-loop-processor
invariant-loop-processor l = map (λ own. own.items) l.all.items ≡ map (λ h. h.transcript) l.yielded
