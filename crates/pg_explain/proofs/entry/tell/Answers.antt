use Rattle.std.proofs.Common.{[], ◌∷◌, ap, sym, ◌∙◌, subst, map}
use Rattle.std.specs.List.{AllByRecursion}
use Rattle.std.proofs.lemmas.List.{map_push}
use Rattle.pg_event.proofs.Chunks.{all_append}
use Rattle.pg_chain.specs.Walked.{reading_of}
use Rattle.pg_explain.specs.Walk.{IsTold, reading_at}
use Rattle.pg_explain.proofs.Loops.{next_mapped, all_taken}
use Rattle.pg_explain.proofs.entry.tell.Goals as goal

pub loop-step-preserved : goal.loop-step-preserved
loop-step-preserved c =
    let are_told = IsTold c.args.seen.now.head c.args.seen.now.events c.args.p in
    let walk = c.loop-step.walk.items in
    let told = c.told.result in
    let pushed = c.in_ok-push.ensures.items in
    record {
      read = next_mapped reading_of c.args.steps.now c.loop-step.step-index _ (map reading_at walk) (map reading_at c.push.new.self.items) (reading_at told)
          c.loop-step-test.true (ap (map reading_at) pushed ∙ map_push reading_at walk told) (ap reading_of c.told.ensures.step) c.loop-step.invariant.read;
      told = subst (AllByRecursion are_told) (sym pushed) (all_append are_told walk (told ∷ []) c.loop-step.invariant.told (c.told.ensures.told, tt));
    }

pub returns-clause-read : goal.returns-clause-read
returns-clause-read c = c.loop-step.invariant.read ∙ ap (map reading_of) (all_taken c.args.steps.now c.loop-step.step-index c.loop-step-test.false)

pub returns-clause-told : goal.returns-clause-told
returns-clause-told c = c.loop-step.invariant.told
