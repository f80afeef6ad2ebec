use Rattle.std.proofs.Common.{All, IfOk, subst}
use Rattle.pg_pool.specs.declared.round.Round.{Round}
use Rattle.pg_pool.specs.Work.{IsDone}
use Rattle.pg_pool.proofs.checkers.run_checkers.Goals as goal

pub returns-clause-done : goal.returns-clause-done
returns-clause-done g c = λ run fits.
    subst (λ (r : Round). IfOk c.scoped.result.0 (λ done. All (IsDone (g.J.Segments.ends c.args.segments.now run) (g.J.Segments.tells c.args.segments.now run) r) done.items)) c.round-round.ensures
    (c.scoped.ensures.1.1.0 run fits)
