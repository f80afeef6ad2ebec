use Rattle.std.proofs.Common.{◌≡◌, ℕ, ◌+◌, ◌++◌, ◌∷◌, [], List, Option, take, min, max, ap, ◌∙◌, sym, subst}
use Rattle.std.specs.List.{All}
use Rattle.std.proofs.lemmas.List.{take_more, take_all}
use Rattle.std.proofs.lemmas.List.Elements.{All-push}
use Rattle.pg_reach.specs.declared.reach.Reach.{Reach}
use Rattle.pg_reach.specs.WitnessedUpTo.{ArePassed}
use Rattle.pg_reach.proofs.Before.{found_more}
use Rattle.pg_reach.proofs.Pieces.{all_later}
use Rattle.pg_reach.proofs.view.View.last_among.Goals as goal

pub loop-x-preserved : goal.loop-x-preserved
loop-x-preserved c =
    let xs : List Reach = c.args.reaches.now in
    let i : ℕ = c.loop-x.x-index in
    let x : Reach = c.x-item.result in
    let more : take (i + 1) xs ≡ take i xs ++ x ∷ [] = take_more xs i x c.loop-x-test.true ∙ ap (λ (y : Reach). take i xs ++ y ∷ []) (sym c.x-item.is) in
    let passed : Option ℕ → Reach → Type 0 = λ found x. ArePassed c.args.self.now.run c.args.self.now.walker c.args.self.now.event c.args.level (max x.from 0) (min x.to c.args.self.now.walker.number + 1) x found in
    record {
      memo = c.last_in-last.ensures.memo ∙ c.loop-x.invariant.memo;
      some = found_more c.args.self.now.run c.args.self.now.walker c.args.self.now.event c.args.found c.loop-x.last c.last_in-last.result c.loop-x.invariant.some c.last_in-last.ensures.some;
      later = λ j h. c.last_in-last.ensures.later j (c.loop-x.invariant.later j h);
      passed = subst (All (passed c.last_in-last.result)) (sym more) (All-push (passed c.last_in-last.result) (take i xs) x
          (all_later c.args.self.now.run c.args.self.now.walker c.args.self.now.event c.args.level (take i xs) c.loop-x.last c.last_in-last.result c.last_in-last.ensures.later c.loop-x.invariant.passed) c.last_in-last.ensures.passed);
    }

pub returns-clause-passed : goal.returns-clause-passed
returns-clause-passed c =
    let passed : Reach → Type 0 = λ x. ArePassed c.args.self.now.run c.args.self.now.walker c.args.self.now.event c.args.level (max x.from 0) (min x.to c.args.self.now.walker.number + 1) x c.loop-x.last in
    subst (All passed) (take_all c.loop-x.x-index c.args.reaches.now c.loop-x-test.false) c.loop-x.invariant.passed
