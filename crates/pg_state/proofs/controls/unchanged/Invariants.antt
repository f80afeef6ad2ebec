use Rattle.std.proofs.Common.{◌≡◌, [], replicate}
use Rattle.pg_state.proofs.controls.unchanged.Given as goal

abbrev pub invariant-loop : goal.invariant-loop
invariant-loop l = l.by_processor.items ≡ replicate l.index []
