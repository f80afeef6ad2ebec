use Rattle.std.proofs.Common.{◌≡◌, ℕ, ◌+◌, ◌++◌, ◌∷◌, [], List, take, ap, ◌∙◌, sym, subst}
use Rattle.std.proofs.lemmas.List.{take_more, take_all}
use Rattle.pg_reach.specs.declared.reach.Reach.{Reach}
use Rattle.pg_reach.specs.Reaching.{AreBelow}
use Rattle.pg_reach.proofs.Levels.{below_more}
use Rattle.pg_reach.proofs.view.View.tables_below.Goals as goal

pub loop-x-preserved : goal.loop-x-preserved
loop-x-preserved c =
    let xs : List Reach = c.args.above.now in
    let i : ℕ = c.loop-x.x-index in
    let x : Reach = c.x-item.result in
    let more : take (i + 1) xs ≡ take i xs ++ x ∷ [] = take_more xs i x c.loop-x-test.true ∙ ap (λ (y : Reach). take i xs ++ y ∷ []) (sym c.x-item.is) in
    subst (λ (ys : List Reach). AreBelow c.args.self.now.run c.args.self.now.walker c.args.level c.args.low ys c.add_tables.new.nexts) (sym more)
    (below_more c.args.self.now.run c.args.self.now.walker c.args.level c.args.low (take i xs) x c.loop-x.nexts c.add_tables.new.nexts c.loop-x.invariant c.in_ok-add_tables.ensures)

pub returns : goal.returns
returns c = subst (λ (ys : List Reach). AreBelow c.args.self.now.run c.args.self.now.walker c.args.level c.args.low ys c.loop-x.nexts) (take_all c.loop-x.x-index c.args.above.now c.loop-x-test.false) c.loop-x.invariant
