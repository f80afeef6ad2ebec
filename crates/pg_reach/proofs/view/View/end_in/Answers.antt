use Rattle.std.proofs.Common.{◌≡◌, ◌<◌, ◌+◌, ◌^◌, min, max, ap, subst, sym, ◌∙◌, arith}
use Rattle.pg_event.specs.Spelling.{Recorded}
use Rattle.pg_reach.specs.declared.walker.Walker.{Walker}
use Rattle.pg_reach.specs.declared.reach.Reach.{Reach}
use Rattle.pg_reach.specs.Views.{Viewed}
use Rattle.pg_reach.specs.Reaching.{up_to, IsFresher}
use Rattle.pg_reach.specs.Ends.{AreRefused}
use Rattle.pg_reach.proofs.Refusals.{refused_more, refused_less, refused_rest}
use Rattle.pg_reach.proofs.view.View.end_in.Goals as goal

pub loop-at-preserved : goal.loop-at-preserved
loop-at-preserved c =
    let r : Recorded = c.args.self.now.run in
    let v : Walker = c.args.self.now.walker in
    let x : Reach = c.args.x.now in
    let number : c.self.inside.walker.number ≡ v.number = ap (λ (v : Viewed). v.walker.number) c.self.view_is in
    let next : c.in-Some.next ≡ c.piece_at-piece.result.to + 1 = c.in-Some.ensures.1 in
    let none = refused_more r v c.args.self.now.event c.args.level (max x.from c.args.since) c.loop-at.at c.min-last.result x c.piece_at-piece.result c.loop-at.best c.end_by-best.result (omega (arith, c.min-last.ensures)) (omega (arith, c.min-last.ensures, number)) c.requires.small
    c.end_by-best.ensures.fresher c.loop-at.invariant.none c.piece_at-piece.ensures c.end_by-best.ensures.none in
    record {
      order = omega (arith, next, c.loop-at.invariant.order, c.piece_at-piece.ensures.low);
      memo = c.end_by-best.ensures.memo ∙ c.loop-at.invariant.memo;
      some = c.end_by-best.ensures.some;
      fresher = λ ws h. c.end_by-best.ensures.fresher ws (c.loop-at.invariant.fresher ws h);
      none = subst (λ until. AreRefused r v c.args.self.now.event c.args.level (max x.from c.args.since) until x c.end_by-best.result) (sym next) none;
    }

pub returns-in-None-clause-none : goal.returns-in-None-clause-none
returns-in-None-clause-none c =
    let r : Recorded = c.args.self.now.run in
    let v : Walker = c.args.self.now.walker in
    let x : Reach = c.args.x.now in
    let number : c.self.inside.walker.number ≡ v.number = ap (λ (v : Viewed). v.walker.number) c.self.view_is in
    let over : c.piece_at-piece.result.to + 1 < 2 ^ 32 → ⊥ = c.in-None.ensures in
    refused_less r v c.args.self.now.event c.args.level (max x.from c.args.since) (min x.to v.number + 1) (c.piece_at-piece.result.to + 1) x c.end_by-best.result (omega (arith, over, number, c.min-last.ensures, c.min-last.type_inv))
    (refused_more r v c.args.self.now.event c.args.level (max x.from c.args.since) c.loop-at.at c.min-last.result x c.piece_at-piece.result c.loop-at.best c.end_by-best.result (omega (arith, c.min-last.ensures)) (omega (arith, c.min-last.ensures, number)) c.requires.small
    c.end_by-best.ensures.fresher c.loop-at.invariant.none c.piece_at-piece.ensures c.end_by-best.ensures.none)

pub returns-then-is_enough-clause-none : goal.returns-then-is_enough-clause-none
returns-then-is_enough-clause-none c =
    let r : Recorded = c.args.self.now.run in
    let v : Walker = c.args.self.now.walker in
    let x : Reach = c.args.x.now in
    let number : c.self.inside.walker.number ≡ v.number = ap (λ (v : Viewed). v.walker.number) c.self.view_is in
    let freshest : c.self.inside.walker.freshest ≡ v.freshest = ap (λ (v : Viewed). v.walker.freshest) c.self.view_is in
    let enough : IsFresher v.freshest c.loop-at.best (up_to c.min-last.result x.latest) = subst (λ f. IsFresher f c.loop-at.best (up_to c.min-last.result x.latest)) freshest
    (subst (IsFresher c.self.inside.walker.freshest c.loop-at.best) c.up_to-most.ensures (c.is_enough.ensures.enough c.if-is_enough.true)) in
    refused_rest r v c.args.self.now.event c.args.level (max x.from c.args.since) c.loop-at.at c.min-last.result (min x.to v.number + 1) x c.loop-at.best (omega (arith, c.min-last.ensures)) (omega (arith, c.min-last.ensures, number)) c.requires.small (omega (arith, c.min-last.ensures, number))
    c.loop-at.invariant.none enough

pub returns-clause-none : goal.returns-clause-none
returns-clause-none c =
    let number : c.self.inside.walker.number ≡ c.args.self.now.walker.number = ap (λ (v : Viewed). v.walker.number) c.self.view_is in
    refused_less c.args.self.now.run c.args.self.now.walker c.args.self.now.event c.args.level (max c.args.x.now.from c.args.since) (min c.args.x.now.to c.args.self.now.walker.number + 1) c.loop-at.at c.args.x.now c.loop-at.best (omega (arith, c.loop-at-test.false, c.min-last.ensures, number))
    c.loop-at.invariant.none
