use Rattle.std.proofs.Common.{◌≡◌, ◌<◌, ◌+◌, ◌^◌, min, max, ap, subst, sym, arith}
use Rattle.pg_reach.specs.Views.{Viewed}
use Rattle.pg_reach.specs.Reaching.{IsFilled}
use Rattle.pg_reach.proofs.Nexts.{filled_more, filled_less}
use Rattle.pg_reach.proofs.view.View.add_tables.Goals as goal

pub loop-at-preserved : goal.loop-at-preserved
loop-at-preserved c =
    let next : c.in-Some.next ≡ c.piece_at-piece.result.to + 1 = c.in-Some.ensures.1 in
    record {
      order = omega (arith, next, c.loop-at.invariant.order, c.piece_at-piece.ensures.low);
      filled = subst (λ until. IsFilled c.args.self.now.run c.args.self.now.walker c.args.level (max c.args.x.now.from c.args.low) until c.args.x.now c.args.nexts.now c.add_table.new.nexts) (sym next)
          (filled_more c.args.self.now.run c.args.self.now.walker c.args.level (max c.args.x.now.from c.args.low) c.loop-at.at (c.piece_at-piece.result.to + 1) c.args.x.now c.args.nexts.now c.loop-at.nexts c.add_table.new.nexts c.loop-at.invariant.filled c.in_ok-add_table.ensures);
    }

pub returns-in-None : goal.returns-in-None
returns-in-None c =
    let number : c.self.inside.walker.number ≡ c.args.self.now.walker.number = ap (λ (v : Viewed). v.walker.number) c.self.view_is in
    let over : c.piece_at-piece.result.to + 1 < 2 ^ 32 → ⊥ = c.in-None.ensures in
    filled_less c.args.self.now.run c.args.self.now.walker c.args.level (max c.args.x.now.from c.args.low) (min c.args.x.now.to c.args.self.now.walker.number + 1) (c.piece_at-piece.result.to + 1) c.args.x.now c.args.nexts.now c.add_table.new.nexts (omega (arith, over, number, c.min-last.ensures, c.min-last.type_inv))
    (filled_more c.args.self.now.run c.args.self.now.walker c.args.level (max c.args.x.now.from c.args.low) c.loop-at.at (c.piece_at-piece.result.to + 1) c.args.x.now c.args.nexts.now c.loop-at.nexts c.add_table.new.nexts c.loop-at.invariant.filled c.in_ok-add_table.ensures)

pub returns : goal.returns
returns c =
    let number : c.self.inside.walker.number ≡ c.args.self.now.walker.number = ap (λ (v : Viewed). v.walker.number) c.self.view_is in
    filled_less c.args.self.now.run c.args.self.now.walker c.args.level (max c.args.x.now.from c.args.low) (min c.args.x.now.to c.args.self.now.walker.number + 1) c.loop-at.at c.args.x.now c.args.nexts.now c.loop-at.nexts (omega (arith, c.loop-at-test.false, c.min-last.ensures, number))
    c.loop-at.invariant.filled
