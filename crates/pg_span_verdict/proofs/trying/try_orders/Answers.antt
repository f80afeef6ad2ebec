use Rattle.std.proofs.Common.{◌+◌, ◌/◌, ◌≤◌, ℕ, [], List, length, sym, ap, subst, arith, inl, inr}
use Rattle.std.proofs.lemmas.Bool.{cases_lt}
use Rattle.pg_span_run.specs.Orders.{Spanned}
use Rattle.pg_span_verdict.specs.declared.trying.Trying.{Trying}
use Rattle.pg_span_verdict.specs.Steps.{HasRoom, steps, left}
use Rattle.pg_span_verdict.specs.Trying.{AreNumbers, AreTried, IsTrying}
use Rattle.pg_span_verdict.proofs.Fronts.{nothing_tried, numbers_of_none, some_events}
use Rattle.pg_span_verdict.proofs.Steps.{room_of_none, left_first, left_some, enough}
use Rattle.pg_span_verdict.proofs.trying.try_orders.Goals as goal
use Rattle.pg_span_verdict.proofs.trying.try_orders.Goals.{then-trying-count+in_ok-go_on, else-trying-count+else-not-go_back}

pub loop-init : goal.loop-init
loop-init c =
    let s : Spanned = c.args.run.now in
    let n : ℕ = length s.events in
    record {
      trying = record {
        numbers = subst (AreNumbers s) (sym c.new.ensures.items) (numbers_of_none s);
        next = omega arith;
        tried = subst (λ (xs : List ℕ). AreTried s [] xs 0) (sym c.new.ensures.items) (nothing_tried s);
        whole = λ long. absurd (omega (arith, long, ap length c.new.ensures.items, some_events s c.requires));
        room = subst (HasRoom n) (sym c.new.ensures.items) (room_of_none n);
      };
      made = subst (λ (xs : List ℕ). 0 + left n [] xs 0 ≤ steps n n) (sym c.new.ensures.items) (omega (arith, left_first n));
    }

pub go_on-requires-clause-trying : goal.go_on-requires-clause-trying
go_on-requires-clause-trying c = c.loop.invariant.trying

pub go_back-requires-clause-trying : goal.go_back-requires-clause-trying
go_back-requires-clause-trying c = c.loop.invariant.trying

pub loop-preserved : goal.loop-preserved
loop-preserved c =
    let s : Spanned = c.args.run.now in
    let n : ℕ = length s.events in
    elim c.if-trying-count.branch [
      | then-trying-count+in_ok-go_on w ↦ record {
        trying = subst (IsTrying s) (sym w.trying-is) w.in_ok-go_on.ensures.trying;
        made = subst (λ (t : Trying). c.loop.counter + 1 + left n [] t.front.items t.next ≤ steps n n) (sym w.trying-is) (omega (arith, w.in_ok-go_on.ensures.fewer, c.loop.invariant.made));
      }
      | else-trying-count+else-not-go_back w ↦ record {
        trying = subst (IsTrying s) (sym w.trying-is) (w.go_back.ensures.back w.if-not-go_back.false);
        made = subst (λ (t : Trying). c.loop.counter + 1 + left n [] t.front.items t.next ≤ steps n n) (sym w.trying-is) (omega (arith, w.go_back.ensures.fewer w.if-not-go_back.false, c.loop.invariant.made));
      }
    ]

pub returns : goal.returns
returns c =
    let s : Spanned = c.args.run.now in
    let n : ℕ = length s.events in
    let some : 1 ≤ left n [] c.loop.trying.front.items c.loop.trying.next = left_some n c.loop.trying.front.items c.loop.trying.next (some_events s c.requires) in
    elim (cases_lt 8 n) [
      | inl many ↦ many
      | inr few ↦ absurd (omega (arith, some, c.loop.invariant.made, enough n few, c.loop-test.false, ap (λ (k : ℕ). 10000000 / (k + 1)) c.len-count.ensures.length))
    ]
