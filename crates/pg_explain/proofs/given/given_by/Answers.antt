use Rattle.std.proofs.Common.{List, map, refl, sym, ◌∙◌}
use Rattle.pg_chain.specs.declared.steps.EntryRead.{EntryRead}
use Rattle.pg_chain.specs.Walked.{reading_of}
use Rattle.pg_explain.specs.Given.{given_by}
use Rattle.pg_explain.proofs.Loops.{next_passed, next_found, all_passed}
use Rattle.pg_explain.proofs.given.given_by.Goals as goal

pub loop-step-preserved : goal.loop-step-preserved
loop-step-preserved c =
    let rest = λ (s : List EntryRead). given_by c.args.cfg c.args.access c.args.la (map reading_of s) in
    next_passed rest rest _ c.args.steps.now c.loop-step.step-index _ _ c.loop-step-test.true refl (sym c.given_at.ensures ∙ c.in_default.is) c.loop-step.invariant

pub returns-in-Some : goal.returns-in-Some
returns-in-Some c =
    let rest = λ (s : List EntryRead). given_by c.args.cfg c.args.access c.args.la (map reading_of s) in
    next_found rest _ _ c.args.steps.now c.loop-step.step-index _ c.in-Some.outcome _ c.loop-step-test.true refl (sym c.given_at.ensures ∙ c.in-Some.is) c.loop-step.invariant

pub returns : goal.returns
returns c = all_passed (λ (s : List EntryRead). given_by c.args.cfg c.args.access c.args.la (map reading_of s)) c.args.steps.now c.loop-step.step-index _ c.loop-step-test.false refl c.loop-step.invariant
