use Rattle.std.proofs.Common.{◌≡◌, ◌+◌, ℕ, List, take, take_all, arith, subst, Option}
use Rattle.std.specs.Prelude.{IfSome, IfNone}
use Rattle.pg_event.specs.declared.event.Event.{Event}
use Rattle.pg_event.specs.Heads.{Head}
use Rattle.pg_certify.specs.Certified.{CanBeCertified, IsDenied}
use Rattle.pg_span_run.specs.Orders.{ordered}
use Rattle.pg_span_verdict.proofs.Ordered.{denied_in_all}
use Rattle.pg_span_verdict.proofs.in_order.first_denied_in.Goals as goal

pub returns-in-Some-clause-denied : goal.returns-in-Some-clause-denied
returns-in-Some-clause-denied c =
    let head : Head = c.args.run.now.head in
    let events : List Event = c.args.run.now.events in
    let numbers : List ℕ = c.args.numbers.now in
    let to : ℕ = c.loop-from.from + c.min.result in
    let front : List Event = ordered events (take to numbers) in
    let n : ℕ = c.in-Some.place in
    let denied : IsDenied head front n = subst (λ (o : Option ℕ). IfSome o (IsDenied head front)) c.in-Some.is (c.settle.ensures.denied head front c.in_ok-certify_between.ensures) in
    denied_in_all head events numbers to n denied

pub returns-clause-denied : goal.returns-clause-denied
returns-clause-denied c =
    let head : Head = c.args.run.now.head in
    let events : List Event = c.args.run.now.events in
    let numbers : List ℕ = c.args.numbers.now in
    let all : take c.loop-from.from numbers ≡ numbers = take_all c.loop-from.from numbers (omega (arith, c.loop-from-test.false)) in
    subst (λ (ks : List ℕ). IfSome c.settle-2.result (IsDenied head (ordered events ks))) all (c.settle-2.ensures.denied head (ordered events (take c.loop-from.from numbers)) c.loop-from.invariant.certifying)

pub returns-clause-certified : goal.returns-clause-certified
returns-clause-certified c =
    let head : Head = c.args.run.now.head in
    let events : List Event = c.args.run.now.events in
    let numbers : List ℕ = c.args.numbers.now in
    let all : take c.loop-from.from numbers ≡ numbers = take_all c.loop-from.from numbers (omega (arith, c.loop-from-test.false)) in
    subst (λ (ks : List ℕ). IfNone c.settle-2.result (CanBeCertified head (ordered events ks))) all (c.settle-2.ensures.certified head (ordered events (take c.loop-from.from numbers)) c.loop-from.invariant.certifying)
