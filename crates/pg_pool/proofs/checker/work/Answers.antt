use Rattle.std.proofs.Common.{◌∙◌, refl, sym, subst}
use Rattle.pg_pool.proofs.Judged.{HasJudged-start, HasJudged-more}
use Rattle.pg_pool.specs.Seats.{Checker}
use Rattle.pg_pool.specs.Work.{HasJudged}
use Rattle.pg_pool.proofs.checker.work.Goals as goal
use Rattle.pg_pool.proofs.checker.work.Goals.{else-loop-test, then-loop-test+in_default}

pub loop-init : goal.loop-init
loop-init g c = record {
  fits = λ run at. at;
  judged = λ run at. rw c.new-told.ensures.items (HasJudged-start (g.J.Segments.tells c.args.segments.now run) c.args.seat c.requires.fresh);
  round = refl;
}

pub loop-preserved : goal.loop-preserved
loop-preserved g c =
    let took = c.in-Some.ensures in record {
      fits = λ run at. c.in_ok-judged.ensures.fits run (c.loop.invariant.fits run at);
      judged = λ run at.
          HasJudged-more (g.J.Segments.tells c.args.segments.now run) c.args.seat.round c.loop.seat c.take.new.self c.in-Some.number c.loop.told.items c.loop.told.items c.push.new.self.items _
          (c.loop.invariant.judged run at) took.seat.1 took.within took.marked refl refl (c.in_ok-judged.ensures.verdict run (c.loop.invariant.fits run at)) c.in_ok-push.ensures.items;
      round = took.seat.1 ∙ c.loop.invariant.round;
    }

pub judge-judged-requires-clause-fits : goal.judge-judged-requires-clause-fits
judge-judged-requires-clause-fits g c = (c.requires.fits.0, c.loop.invariant.fits c.requires.fits.0 c.requires.fits.1)

pub finish-requires : goal.finish-requires
finish-requires g c = (c.requires.fits.0, c.loop.invariant.fits c.requires.fits.0 c.requires.fits.1)

pub returns : goal.returns
returns g c = λ run at. record {
  judged =
      let tells = g.J.Segments.tells c.args.segments.now run in
      let P : Checker → Type 0 = λ s. HasJudged tells c.args.seat.round s c.loop.told.items in
      elim c.loop-test.branch as (λ _. P c.loop-test.seat) [
        | else-loop-test w ↦ subst P (sym w.seat-is) (c.loop.invariant.judged run at)
        | then-loop-test+in_default w ↦ subst P (sym (w.seat-is ∙ w.in_default.ensures.none)) (c.loop.invariant.judged run at)
      ];
  kept = c.in_ok-finish.ensures.ends run (c.loop.invariant.fits run at);
}
