use Rattle.std.proofs.Common.{take, sym, subst}
use Rattle.pg_certify.specs.Windows.{Findings, IsCertifying}
use Rattle.pg_test_meaning.proofs.windows.take_windows.Goals as goal
use Rattle.pg_test_meaning.proofs.windows.take_windows.Goals.{then-from-end+then-end-events+in_ok-take_window, else-from-end}

pub loop-end-preserved : goal.loop-end-preserved
loop-end-preserved c =
    elim c.if-from-end.branch [
      | then-from-end+then-end-events+in_ok-take_window w ↦
          rw (w.certifying-is, w.from-is) w.in_ok-take_window.ensures
      | else-from-end w ↦ rw (w.certifying-is, w.from-is) c.loop-end.invariant
    ]
