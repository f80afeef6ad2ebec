use Rattle.std.proofs.Common.{◌≡◌, ℕ, length, arith, subst, Some, None}
use Rattle.pg_certify.proofs.Segments.{FoundBelow, answer_at, first_of, found_more, none_of}
use Rattle.pg_certify.proofs.segment_checkers.least_of.Goals as goal

pub loop-answer-init : goal.loop-answer-init
loop-answer-init c = λ head events are k inside lt. absurd (omega (arith, lt))

pub loop-answer-preserved : goal.loop-answer-preserved
loop-answer-preserved c = λ head events are.
    let i : ℕ = c.loop-answer.answer-index in
    found_more head events i (c.loop-answer.invariant head events are) (answer_at head events c.args.answers.now i None None are c.loop-answer-test.true c.in-None.is)

pub returns-in-Some : goal.returns-in-Some
returns-in-Some c = λ head events are.
    let i : ℕ = c.loop-answer.answer-index in
    first_of head events i (length c.args.answers.now) c.in-Some.number c.loop-answer-test.true (c.loop-answer.invariant head events are)
    (answer_at head events c.args.answers.now i (Some c.in-Some.number) None are c.loop-answer-test.true c.in-Some.is)

pub returns : goal.returns
returns c = λ head events are.
    let end : c.loop-answer.answer-index ≡ length c.args.answers.now = omega (arith, c.loop-answer-test.false, c.loop-answer.auto.answer-index-end) in
    none_of head events (length c.args.answers.now) (subst (FoundBelow head events) end (c.loop-answer.invariant head events are))
