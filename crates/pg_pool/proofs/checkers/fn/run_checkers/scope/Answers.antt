use Rattle.std.proofs.Common.{rules, ◌<◌, ◌∙◌, All, List, length, ap, sym, subst, arith, get_or, IfOk, Ok, Result, vec_len}
use Rattle.std.specs.declared.alloc.AllocError.{AllocError}
use Rattle.std.specs.declared.thread.PromisedHandle.{PromisedHandle}
use Rattle.std.proofs.lemmas.Grind.{common_steps}
use Rattle.std.proofs.lemmas.List.{length-map}
use Rattle.std.proofs.lemmas.List.Elements.{All-head, All-pop, All-push, All-rest}
use Rattle.std.specs.declared.option.Option.TheVariants.{Some}
use Rattle.pg_pool.specs.declared.checkers.Promised.{Promised}
use Rattle.pg_pool.specs.declared.checker.Done.{Done}
use Rattle.pg_pool.specs.declared.round.Round.{Round}
use Rattle.pg_pool.specs.Seats.{Checker}
use Rattle.pg_pool.specs.Work.{IsDone, IsFreshIn}
use Rattle.pg_pool.proofs.Joined.{all_kept, if_both, if_one}
use Rattle.pg_pool.proofs.checkers.fn.run_checkers.scope.Given.{Over}
use Rattle.pg_pool.proofs.checkers.fn.run_checkers.scope.Goals as goal

-- the handle of a checker's thread
abbrev Handle : Over → Type 0
Handle g = PromisedHandle (Result (Done g.row.J-CheckerState.Denot g.row.J-Verdict.Denot) AllocError) (Promised g.row.J.Denot g.row.J-CheckerState.Denot)

pub spawn_with-started-requires-clause-runs : goal.spawn_with-started-requires-clause-runs
spawn_with-started-requires-clause-runs g c = λ κs within.
    let some = c.requires.fits in
    let state = (All-pop (g.J.Segments.fits c.captures.segments.now some.0) c.loop-seat.waiting.items c.pop.new.self.items (Some c.in-Some-pop.state) c.in-Some-pop.ensures.items (c.loop-seat.invariant.fits some.0 some.1)).1 in
    let fresh = All-head (IsFreshIn c.captures.round) c.in-Some.seat _ (subst (λ (l : List Checker). All (IsFreshIn c.captures.round) l) c.in-Some.ensures.steps.0 c.loop-seat.invariant.fresh) in
    (fresh.1, (fresh.0 ∙ c.requires.round, ((some.0, state), search rules)))

pub loop-seat-preserved : goal.loop-seat-preserved
loop-seat-preserved g c =
    let was = c.loop-seat.invariant in
    let rest = c.in-Some.ensures.steps.0 in
    let pushed = c.push_reserved.ensures in
    let promise = c.in-Ok-started.ensures.ok in record {
      room = omega (arith, was.room, pushed.len, pushed.capacity, ap (λ (l : List Checker). length l) rest);
      count = omega (arith, was.count, pushed.len, ap (λ (l : List Checker). length l) rest);
      fresh = All-rest (IsFreshIn c.captures.round) c.in-Some.seat _ _ rest was.fresh;
      waiting = omega (arith, was.waiting, c.in-Some-pop.ensures.len, ap (λ (l : List Checker). length l) rest);
      fits = λ run all. (All-pop (g.J.Segments.fits c.captures.segments.now run) c.loop-seat.waiting.items c.pop.new.self.items (Some c.in-Some-pop.state) c.in-Some-pop.ensures.items (was.fits run all)).0;
      segments = λ k d below.
          let before = was.segments k d in
          let same = ap (λ (p : Promised g.row.J.Denot g.row.J-CheckerState.Denot). p.segments.now) promise in
          grind (arith, common_steps);
      round = λ k d below.
          let before = was.round k d in
          let same = ap (λ (p : Promised g.row.J.Denot g.row.J-CheckerState.Denot). p.round) promise in
          grind (arith, common_steps);
      began = λ run all k d below.
          let P : Handle g → Type 0 = λ h. g.J.Segments.fits c.captures.segments.now run h.promise.began.value in
          let state = (All-pop (g.J.Segments.fits c.captures.segments.now run) c.loop-seat.waiting.items c.pop.new.self.items (Some c.in-Some-pop.state) c.in-Some-pop.ensures.items (was.fits run all)).1 in
          let same = ap (λ (p : Promised g.row.J.Denot g.row.J-CheckerState.Denot). p.began.value) promise ∙ c.of.ensures in
          let here : P c.in-Ok-started.handle = subst (g.J.Segments.fits c.captures.segments.now run) (sym same) state in
          let grown : All P c.push_reserved.new.self.items =
          subst (λ (l : List (Handle g)). All P l) (sym pushed.items)
          (All-push P c.loop-seat.handles.items c.in-Ok-started.handle (λ j e less. was.began run all j e (omega (arith, less, c.loop-seat.handles.ok.0))) here) in
          grown k d (omega (arith, below, c.push_reserved.new.self.ok.0));
    }

pub returns-in-Ok-join_promised : goal.returns-in-Ok-join_promised
returns-in-Ok-join_promised g c =
    let was = c.loop-seat.invariant in
    record {
      len = if_both _ _ _ c.settled.result (λ all lower items. omega (arith, lower, ap length items, length-map {B = Result (Done g.row.J-CheckerState.Denot g.row.J-Verdict.Denot) AllocError} all.items (λ d. Ok d), all.ok.0, c.in-Ok-join_promised.done.ok.0, c.in-Ok-join_promised.ensures.len, c.loop-seat.invariant.count, c.len-asked.ensures)) c.settled.ensures.len c.settled.ensures.items;
      done = λ run fits.
          if_one _ _ c.settled.result
          (λ all items.
          all_kept (IsDone (g.J.Segments.ends c.captures.segments.now run) (g.J.Segments.tells c.captures.segments.now run) c.captures.round) c.in-Ok-join_promised.done.items all.items items
          (λ i d less.
          let inside : i < vec_len c.loop-seat.handles = omega (arith, less, c.in-Ok-join_promised.done.ok.0, c.in-Ok-join_promised.ensures.len) in
          let at = (c.in-Ok-join_promised.ensures.each i d inside).1 in
          let r = get_or c.in-Ok-join_promised.done.items i d in
          let h = get_or c.loop-seat.handles.items i at.handle in
          let kept = subst (λ (k : Handle g). g.J.Segments.fits k.promise.segments.now run k.promise.began.value → IfOk r (IsDone (g.J.Segments.ends k.promise.segments.now run) (g.J.Segments.tells k.promise.segments.now run) k.promise.round)) at.handle_is (at.kept run) in
          let there = subst (λ (s : g.row.J.Denot). g.J.Segments.fits s run h.promise.began.value → IfOk r (IsDone (g.J.Segments.ends s run) (g.J.Segments.tells s run) h.promise.round)) (was.segments i at.handle inside) kept in
          subst (λ (q : Round). IfOk r (IsDone (g.J.Segments.ends c.captures.segments.now run) (g.J.Segments.tells c.captures.segments.now run) q)) (was.round i at.handle inside) (there (was.began run fits i at.handle inside))))
          c.settled.ensures.items;
      err = c.settled.ensures.err;
      beside = c.run-output.ensures;
    }
