use Rattle.std.proofs.Common.{All, subst}
use Rattle.pg_pool.specs.declared.round.Round.{Round}
use Rattle.pg_pool.specs.Verdicts.{AreVerdicts}
use Rattle.pg_pool.specs.Work.{IsDone}
use Rattle.pg_pool.proofs.rounds.gather_done.Goals as goal

pub returns-in_ok-gather-in-Ok-clause-verdicts : goal.returns-in_ok-gather-in-Ok-clause-verdicts
returns-in_ok-gather-in-Ok-clause-verdicts g c = λ run all.
    let keeps = g.J.Segments.ends c.args.segments.now run in
    let tells = g.J.Segments.tells c.args.segments.now run in
    subst (λ (r : Round). All (IsDone keeps tells r) c.in-Ok.done.items → AreVerdicts tells r c.in_ok-gather-in-Ok.field-0.verdicts.items) c.round.ensures (c.in_ok-gather-in-Ok.ensures.verdicts run) (rw c.in-Ok.is at all)

pub returns-in_ok-gather-in-Ok-clause-ends : goal.returns-in_ok-gather-in-Ok-clause-ends
returns-in_ok-gather-in-Ok-clause-ends g c = λ run all.
    let keeps = g.J.Segments.ends c.args.segments.now run in
    let tells = g.J.Segments.tells c.args.segments.now run in
    subst (λ (r : Round). All (IsDone keeps tells r) c.in-Ok.done.items → All keeps c.in_ok-gather-in-Ok.field-0.states.items) c.round.ensures (c.in_ok-gather-in-Ok.ensures.ends run) (rw c.in-Ok.is at all)
