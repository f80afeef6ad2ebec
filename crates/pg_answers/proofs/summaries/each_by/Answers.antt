use Rattle.std.proofs.Common.{◌+◌, List, sym, subst, take}
use Rattle.pg_event.specs.declared.event.Event.{Event}
use Rattle.pg_event.specs.declared.event.Reason.TheVariants.{Order}
use Rattle.pg_event.specs.Heads.{Head}
use Rattle.pg_explain.specs.declared.bad_events.Bad.{Bad}
use Rattle.pg_explain.specs.declared.explainer.Explanation.{Explanation}
use Rattle.pg_explain.proofs.Loops.{all_taken}
use Rattle.pg_explain.proofs.Judged.{bad_at, bad_fails, bad_within}
use Rattle.pg_answers.specs.Answers.{AreExplanations}
use Rattle.pg_answers.proofs.Explained.{next_explained}
use Rattle.pg_answers.proofs.summaries.each_by.Goals as goal

pub loop-bad-preserved : goal.loop-bad-preserved
loop-bad-preserved c =
    let none : Bad = record { number = 0; reason = Order; p = 0; page = 0 } in
    let head : Head = c.args.history.now.head in
    let events : List Event = c.args.history.now.events in
    let next = next_explained head events c.args.found.now c.loop-bad.causes.items c.loop-bad.bad-index none c.in_ok-cause.cause c.loop-bad-test.true c.loop-bad.invariant c.in_ok-cause.ensures in
    subst (λ (xs : List Explanation). AreExplanations head events (take (c.loop-bad.bad-index + 1) c.args.found.now) xs) (sym c.in_ok-push.ensures.items) next

pub cause_of-requires-clause-within : goal.cause_of-requires-clause-within
cause_of-requires-clause-within c =
    let head : Head = c.args.history.now.head in
    let events : List Event = c.args.history.now.events in
    bad_within head events _ _ (bad_at head events c.args.found.now c.loop-bad.bad-index _ c.loop-bad-test.true c.requires.bad)

pub cause_of-requires-clause-bad : goal.cause_of-requires-clause-bad
cause_of-requires-clause-bad c =
    let head : Head = c.args.history.now.head in
    let events : List Event = c.args.history.now.events in
    bad_fails head events _ _ (bad_at head events c.args.found.now c.loop-bad.bad-index _ c.loop-bad-test.true c.requires.bad)

pub returns : goal.returns
returns c =
    let head : Head = c.args.history.now.head in
    let events : List Event = c.args.history.now.events in
    subst (λ (bs : List Bad). AreExplanations head events bs c.loop-bad.causes.items) (all_taken c.args.found.now c.loop-bad.bad-index c.loop-bad-test.false) c.loop-bad.invariant
