use Rattle.std.proofs.Common.{◌≡◌, ◌<◌, ◌+◌, ◌^◌, min, max, ap, subst, sym, ◌∙◌, arith}
use Rattle.pg_event.specs.Spelling.{Recorded}
use Rattle.pg_reach.specs.declared.walker.Walker.{Walker}
use Rattle.pg_reach.specs.declared.reach.Reach.{Reach}
use Rattle.pg_reach.specs.Views.{Viewed}
use Rattle.pg_reach.specs.WitnessedUpTo.{ArePassed}
use Rattle.pg_reach.proofs.Before.{found_more}
use Rattle.pg_reach.proofs.Pieces.{read_in, passed_more, passed_less}
use Rattle.pg_reach.proofs.view.View.last_in.Goals as goal

pub last_by-last-requires-clause-read : goal.last_by-last-requires-clause-read
last_by-last-requires-clause-read c =
    let number : c.self.inside.walker.number ≡ c.args.self.now.walker.number = ap (λ (v : Viewed). v.walker.number) c.self.view_is in
    read_in c.args.self.now.run c.args.self.now.walker c.args.level c.loop-at.at c.min-end.result c.args.x.now c.piece_at-piece.result (omega (arith, c.loop-at.invariant.order)) (omega (arith, c.min-end.ensures)) (omega (arith, c.min-end.ensures, number)) c.piece_at-piece.ensures

pub loop-at-preserved : goal.loop-at-preserved
loop-at-preserved c =
    let r : Recorded = c.args.self.now.run in
    let v : Walker = c.args.self.now.walker in
    let x : Reach = c.args.x.now in
    let number : c.self.inside.walker.number ≡ v.number = ap (λ (v : Viewed). v.walker.number) c.self.view_is in
    let next : c.in-Some.next ≡ c.piece_at-piece.result.to + 1 = c.in-Some.ensures.1 in
    let passed = passed_more r v c.args.self.now.event c.args.level (max x.from 0) c.loop-at.at c.min-end.result x c.piece_at-piece.result c.loop-at.last c.last_by-last.result (omega (arith, c.min-end.ensures)) (omega (arith, c.min-end.ensures, number))
    c.last_by-last.ensures.later c.loop-at.invariant.passed c.piece_at-piece.ensures c.last_by-last.ensures.passed in
    record {
      order = omega (arith, next, c.loop-at.invariant.order, c.piece_at-piece.ensures.low);
      memo = c.last_by-last.ensures.memo ∙ c.loop-at.invariant.memo;
      some = found_more r v c.args.self.now.event c.args.found c.loop-at.last c.last_by-last.result c.loop-at.invariant.some c.last_by-last.ensures.some;
      later = λ j h. c.last_by-last.ensures.later j (c.loop-at.invariant.later j h);
      passed = subst (λ until. ArePassed r v c.args.self.now.event c.args.level (max x.from 0) until x c.last_by-last.result) (sym next) passed;
    }

pub returns-in-None-clause-passed : goal.returns-in-None-clause-passed
returns-in-None-clause-passed c =
    let r : Recorded = c.args.self.now.run in
    let v : Walker = c.args.self.now.walker in
    let x : Reach = c.args.x.now in
    let number : c.self.inside.walker.number ≡ v.number = ap (λ (v : Viewed). v.walker.number) c.self.view_is in
    let over : c.piece_at-piece.result.to + 1 < 2 ^ 32 → ⊥ = c.in-None.ensures in
    passed_less r v c.args.self.now.event c.args.level (max x.from 0) (min x.to v.number + 1) (c.piece_at-piece.result.to + 1) x c.last_by-last.result (omega (arith, over, number, c.min-end.ensures, c.min-end.type_inv))
    (passed_more r v c.args.self.now.event c.args.level (max x.from 0) c.loop-at.at c.min-end.result x c.piece_at-piece.result c.loop-at.last c.last_by-last.result (omega (arith, c.min-end.ensures)) (omega (arith, c.min-end.ensures, number))
    c.last_by-last.ensures.later c.loop-at.invariant.passed c.piece_at-piece.ensures c.last_by-last.ensures.passed)

pub returns-clause-passed : goal.returns-clause-passed
returns-clause-passed c =
    let number : c.self.inside.walker.number ≡ c.args.self.now.walker.number = ap (λ (v : Viewed). v.walker.number) c.self.view_is in
    passed_less c.args.self.now.run c.args.self.now.walker c.args.self.now.event c.args.level (max c.args.x.now.from 0) (min c.args.x.now.to c.args.self.now.walker.number + 1) c.loop-at.at c.args.x.now c.loop-at.last (omega (arith, c.loop-at-test.false, c.min-end.ensures, number))
    c.loop-at.invariant.passed
