use Rattle.std.proofs.Common.{All, subst, vec_len, arith}
use Rattle.pg_pool.specs.declared.round.Round.{Round}
use Rattle.pg_pool.specs.Work.{IsFreshIn}
use Rattle.pg_pool.proofs.Joined.{if_one}
use Rattle.pg_pool.proofs.Placed.{all_fresh, all_seats}
use Rattle.pg_pool.proofs.rounds.judge_round.Goals as goal

pub run_checkers-done-requires-clause-fresh : goal.run_checkers-done-requires-clause-fresh
run_checkers-done-requires-clause-fresh g c κs within =
    subst (λ (r : Round). All (IsFreshIn r) c.in-Ok.seats.items) c.round-round.ensures
    (all_fresh c.round-round.result c.block_of-block.result c.len-checkers.result c.in-Ok.seats.items c.in-Ok.ensures)

pub run_checkers-done-requires-clause-len : goal.run_checkers-done-requires-clause-len
run_checkers-done-requires-clause-len g c κs within =
    omega (arith, all_seats c.round-round.result c.block_of-block.result c.len-checkers.result c.in-Ok.seats.items c.in-Ok.ensures, c.in-Ok.seats.ok.0, c.len-checkers.ensures)

pub gather_done-requires-clause-some : goal.gather_done-requires-clause-some
gather_done-requires-clause-some g c κs within =
    if_one _ _ c.run_checkers-done.result.0
    (λ done is. omega (arith, is, all_seats c.round-round.result c.block_of-block.result c.len-checkers.result c.in-Ok.seats.items c.in-Ok.ensures, c.in-Ok.seats.ok.0, c.len-checkers.ensures, c.requires.checkers))
    c.run_checkers-done.ensures.len

pub gather_done-requires-clause-done : goal.gather_done-requires-clause-done
gather_done-requires-clause-done g c κs within =
    let run = c.requires.fits.0 in
    (run, c.run_checkers-done.ensures.done run c.requires.fits.1)

pub returns-clause-verdicts : goal.returns-clause-verdicts
returns-clause-verdicts g c = λ run fits. c.gather_done.ensures.verdicts run (c.run_checkers-done.ensures.done run fits)

pub returns-clause-ends : goal.returns-clause-ends
returns-clause-ends g c = λ run fits. c.gather_done.ensures.ends run (c.run_checkers-done.ensures.done run fits)

pub returns-clause-len : goal.returns-clause-len
returns-clause-len g c =
    c.gather_done.ensures.len (vec_len c.args.states)
    (if_one _ _ c.run_checkers-done.result.0
    (λ done is. omega (arith, is, all_seats c.round-round.result c.block_of-block.result c.len-checkers.result c.in-Ok.seats.items c.in-Ok.ensures, c.in-Ok.seats.ok.0, c.len-checkers.ensures))
    c.run_checkers-done.ensures.len)
