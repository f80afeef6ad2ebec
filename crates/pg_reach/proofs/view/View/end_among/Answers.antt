use Rattle.std.proofs.Common.{◌≡◌, ℕ, ◌+◌, ◌++◌, ◌∷◌, [], List, Option, take, min, max, ap, ◌∙◌, sym, subst}
use Rattle.std.specs.List.{All}
use Rattle.std.proofs.lemmas.List.{take_more, take_all}
use Rattle.std.proofs.lemmas.List.Elements.{All-push}
use Rattle.pg_reach.specs.declared.reach.Reach.{Reach}
use Rattle.pg_reach.specs.Ends.{AreRefused}
use Rattle.pg_reach.proofs.Refusals.{all_better}
use Rattle.pg_reach.proofs.view.View.end_among.Goals as goal

pub loop-x-preserved : goal.loop-x-preserved
loop-x-preserved c =
    let xs : List Reach = c.args.reaches.now in
    let i : ℕ = c.loop-x.x-index in
    let x : Reach = c.x-item.result in
    let more : take (i + 1) xs ≡ take i xs ++ x ∷ [] = take_more xs i x c.loop-x-test.true ∙ ap (λ (y : Reach). take i xs ++ y ∷ []) (sym c.x-item.is) in
    let refused : Option (List ℕ) → Reach → Type 0 = λ found x. AreRefused c.args.self.now.run c.args.self.now.walker c.args.self.now.event c.args.level (max x.from c.args.since) (min x.to c.args.self.now.walker.number + 1) x found in
    record {
      memo = c.end_in-best.ensures.memo ∙ c.loop-x.invariant.memo;
      some = c.end_in-best.ensures.some;
      fresher = λ ws h. c.end_in-best.ensures.fresher ws (c.loop-x.invariant.fresher ws h);
      none = subst (All (refused c.end_in-best.result)) (sym more) (All-push (refused c.end_in-best.result) (take i xs) x
          (all_better c.args.self.now.run c.args.self.now.walker c.args.self.now.event c.args.level c.args.since (take i xs) c.loop-x.best c.end_in-best.result c.end_in-best.ensures.fresher c.loop-x.invariant.none) c.end_in-best.ensures.none);
    }

pub returns-clause-none : goal.returns-clause-none
returns-clause-none c =
    let refused : Reach → Type 0 = λ x. AreRefused c.args.self.now.run c.args.self.now.walker c.args.self.now.event c.args.level (max x.from c.args.since) (min x.to c.args.self.now.walker.number + 1) x c.loop-x.best in
    subst (All refused) (take_all c.loop-x.x-index c.args.reaches.now c.loop-x-test.false) c.loop-x.invariant.none
