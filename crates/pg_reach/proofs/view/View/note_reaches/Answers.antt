use Rattle.std.proofs.Common.{◌≡◌, ℕ, ◌+◌, ◌++◌, ◌∷◌, [], List, Option, take, min, max, ap, ◌∙◌, sym, subst}
use Rattle.std.specs.List.{All}
use Rattle.std.proofs.lemmas.List.{take_more, take_all}
use Rattle.std.proofs.lemmas.List.Elements.{All-push}
use Rattle.pg_event.specs.declared.event.Outcome.{Outcome}
use Rattle.pg_event.specs.Spelling.{Recorded}
use Rattle.pg_reach.specs.declared.walker.Walker.{Walker}
use Rattle.pg_reach.specs.declared.reach.Reach.{Reach}
use Rattle.pg_reach.specs.Placed.{with_outcome}
use Rattle.pg_reach.specs.Ends.{AreRefused}
use Rattle.pg_reach.specs.ByOutcome.{Findings, found_at}
use Rattle.pg_reach.proofs.Refusals.{all_better}
use Rattle.pg_reach.proofs.EveryOutcome.{grown_on}
use Rattle.pg_reach.proofs.view.View.note_reaches.Goals as goal

pub loop-x-preserved : goal.loop-x-preserved
loop-x-preserved c =
    let r : Recorded = c.args.self.now.run in
    let v : Walker = c.args.self.now.walker in
    let xs : List Reach = c.args.reaches.now in
    let i : ℕ = c.loop-x.x-index in
    let x : Reach = c.x-item.result in
    let olds : Findings = (found_at c.loop-x.found) in
    let news : Findings = (found_at c.note_reach.new.found) in
    let more : take (i + 1) xs ≡ take i xs ++ x ∷ [] = take_more xs i x c.loop-x-test.true ∙ ap (λ (y : Reach). take i xs ++ y ∷ []) (sym c.x-item.is) in
    let refused : Outcome → Option (List ℕ) → Reach → Type 0 = λ o found x. AreRefused r v (with_outcome o c.args.self.now.event) c.args.level (max x.from c.args.since) (min x.to v.number + 1) x found in
    record {
      memo = c.note_reach.ensures.memo ∙ c.loop-x.invariant.memo;
      grown = grown_on r v.number v.freshest c.args.self.now.event (found_at c.args.found.now) olds news c.loop-x.invariant.grown c.in_ok-note_reach.ensures.grown;
      none = λ o. subst (All (refused o (news o))) (sym more) (All-push (refused o (news o)) (take i xs) x
          (all_better r v (with_outcome o c.args.self.now.event) c.args.level c.args.since (take i xs) (olds o) (news o) (c.in_ok-note_reach.ensures.grown.fresher o) (c.loop-x.invariant.none o)) (c.in_ok-note_reach.ensures.none o));
    }

pub returns-clause-none : goal.returns-clause-none
returns-clause-none c = λ o.
    let refused : Reach → Type 0 = λ x. AreRefused c.args.self.now.run c.args.self.now.walker (with_outcome o c.args.self.now.event) c.args.level (max x.from c.args.since) (min x.to c.args.self.now.walker.number + 1) x ((found_at c.loop-x.found) o) in
    subst (All refused) (take_all c.loop-x.x-index c.args.reaches.now c.loop-x-test.false) (c.loop-x.invariant.none o)
