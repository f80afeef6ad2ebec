use Rattle.std.proofs.Common.{take}
use Rattle.pg_explain.specs.Tallies.{AreTalliesOf}
use Rattle.pg_explain.proofs.tallier.tallies_of.Given as goal

abbrev pub invariant-loop-reason : goal.invariant-loop-reason
invariant-loop-reason l = AreTalliesOf (take l.reason-index l.reasons) l.bads l.tallies.items
