use Rattle.std.proofs.Common.{take}
use Rattle.pg_certify.specs.Windows.{IsCertifying}
use Rattle.pg_test_meaning.proofs.windows.take_windows.Given as goal

abbrev pub invariant-loop-end : goal.invariant-loop-end
invariant-loop-end l = IsCertifying l.certifying l.fn.history.head (take l.from l.fn.history.events)
