use Rattle.std.proofs.Common.{◌≡◌, ℕ, suc, ◌+◌, ◌-◌, List, ◌∷◌, [], ◌++◌, length, sym, ap, subst, ◌∙◌, arith, Option, Some, None, Ok}
use Rattle.pg_span_run.specs.declared.log.Stamped.{Stamped}
use Rattle.pg_span_run.specs.LogReading.{next_at, events_at}
use Rattle.pg_span_run.proofs.LogReadings.{followed, read_more, read_last, read_refused, read_none}
use Rattle.pg_span_run.proofs.log_reader.events_of.Goals as goal

pub returns-in-Err : goal.returns-in-Err
returns-in-Err c =
    let n : ℕ = length c.args.bytes.now - c.loop-i.i in
    let m : ℕ = length c.args.bytes.now - (c.loop-i.i + 1) in
    let one : n ≡ suc m = omega (arith, c.loop-i-test.true) in
    c.loop-i.invariant ∙ read_refused c.loop-i.events.items n m c.args.header.now c.args.own c.loop-i.i c.loop-i.last c.loop-i.rest.now c.in-Err.refusal one c.in-Err.ensures

pub returns-in-None : goal.returns-in-None
returns-in-None c =
    let n : ℕ = length c.args.bytes.now - c.loop-i.i in
    let m : ℕ = length c.args.bytes.now - (c.loop-i.i + 1) in
    let one : n ≡ suc m = omega (arith, c.loop-i-test.true) in
    let next : next_at c.args.header.now c.args.own c.loop-i.i c.loop-i.last c.loop-i.rest.now ≡ Ok (None, c.in-Ok.after.now) =
    subst (λ (o : Option Stamped). next_at c.args.header.now c.args.own c.loop-i.i c.loop-i.last c.loop-i.rest.now ≡ Ok (o, c.in-Ok.after.now)) c.in-None.is c.in-Ok.ensures in
    c.loop-i.invariant ∙ read_last c.loop-i.events.items n m c.args.header.now c.args.own c.loop-i.i c.loop-i.last c.loop-i.rest.now c.in-Ok.after.now one next

pub loop-i-preserved : goal.loop-i-preserved
loop-i-preserved c =
    let n : ℕ = length c.args.bytes.now - c.loop-i.i in
    let m : ℕ = length c.args.bytes.now - (c.loop-i.i + 1) in
    let one : n ≡ suc m = omega (arith, c.loop-i-test.true) in
    let event : Stamped = c.in-Some.event in
    let next : next_at c.args.header.now c.args.own c.loop-i.i c.loop-i.last c.loop-i.rest.now ≡ Ok (Some event, c.in-Ok.after.now) =
    subst (λ (o : Option Stamped). next_at c.args.header.now c.args.own c.loop-i.i c.loop-i.last c.loop-i.rest.now ≡ Ok (o, c.in-Ok.after.now)) c.in-Some.is c.in-Ok.ensures in
    let pushed : c.push.new.events.items ≡ c.loop-i.events.items ++ event ∷ [] = c.in_ok-push-in-Some.ensures in
    c.loop-i.invariant
    ∙ (read_more c.loop-i.events.items n m c.args.header.now c.args.own c.loop-i.i c.loop-i.last c.loop-i.rest.now event c.in-Ok.after.now one next
    ∙ ap (λ (xs : List Stamped). followed xs (events_at m c.args.header.now c.args.own (c.loop-i.i + 1) event.end c.in-Ok.after.now)) (sym pushed))

pub returns : goal.returns
returns c =
    let n : ℕ = length c.args.bytes.now - c.loop-i.i in
    let none : n ≡ 0 = omega (arith, c.loop-i-test.false) in
    c.loop-i.invariant ∙ read_none c.loop-i.events.items n c.args.header.now c.args.own c.loop-i.i c.loop-i.last c.loop-i.rest.now none
