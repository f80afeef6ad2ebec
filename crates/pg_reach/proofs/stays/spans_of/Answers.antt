use Rattle.std.proofs.Common.{◌≡◌, ◌+◌, ◌<◌, ◌≤◌, ◌^◌, ◌++◌, ◌∷◌, [], List, sym, subst, refl, arith}
use Rattle.std.specs.List.{All}
use Rattle.std.proofs.lemmas.List.Elements.{All-push, All-weaker}
use Rattle.pg_event.specs.declared.control.Control.{Control}
use Rattle.pg_timeline.specs.declared.timeline.Span.{Span}
use Rattle.pg_reach.specs.Stays.{IsSteady, IsWithin, AreInOrder}
use Rattle.pg_reach.proofs.Order.{order_push}
use Rattle.pg_reach.proofs.Spans.{within_next}
use Rattle.pg_reach.proofs.stays.spans_of.Goals as goal

pub loop-at-preserved : goal.loop-at-preserved
loop-at-preserved c =
    let olds : List (Span Control) = c.loop-at.spans.items in
    let s : Span Control = record { value = c.control_span-span.result.value; from = c.loop-at.at; to = c.min-to.result } in
    let now : c.push.new.self.items ≡ olds ++ s ∷ [] = c.in_ok-push.ensures.items in
    let next : c.in-Some.next ≡ c.min-to.result + 1 = c.in-Some.ensures.1 in
    let steady : IsSteady c.args.seen.now c.args.p s = record {
      same = λ w low high. c.control_span-span.ensures.span.same w (omega (arith, c.control_span-span.ensures.span.low, low)) (omega (arith, c.min-to.ensures, high));
      root = c.control_span-span.ensures.root;
      small = c.min-to.type_inv;
    } in
    let some : s.from ≤ s.to = omega (arith, c.min-to.ensures, c.control_span-span.ensures.span.high, c.loop-at-test.true) in
    record {
      order = omega (arith, c.loop-at.invariant.order, c.min-to.ensures, next, c.control_span-span.ensures.span.high, c.loop-at-test.true);
      rising = subst AreInOrder (sym now) (order_push olds s c.loop-at.invariant.rising c.loop-at.invariant.before some);
      before = subst (All (λ (x : Span Control). x.to < c.in-Some.next)) (sym now) (All-push (λ x. x.to < c.in-Some.next) olds s (All-weaker (λ x. x.to < c.loop-at.at) (λ x. x.to < c.in-Some.next) (λ x lt. omega (arith, lt, next, some)) olds c.loop-at.invariant.before) (omega (arith, next)));
      each = subst (All (IsSteady c.args.seen.now c.args.p)) (sym now) (All-push (IsSteady c.args.seen.now c.args.p) olds s c.loop-at.invariant.each steady);
      all = λ w low lt. subst (λ (xs : List (Span Control)). IsWithin xs w) (sym now) (within_next olds s c.args.low c.loop-at.at c.loop-at.invariant.all refl w low (omega (arith, next, lt)));
    }

pub returns-in-None : goal.returns-in-None
returns-in-None c =
    let olds : List (Span Control) = c.loop-at.spans.items in
    let s : Span Control = record { value = c.control_span-span.result.value; from = c.loop-at.at; to = c.min-to.result } in
    let now : c.push.new.self.items ≡ olds ++ s ∷ [] = c.in_ok-push.ensures.items in
    let steady : IsSteady c.args.seen.now c.args.p s = record {
      same = λ w low high. c.control_span-span.ensures.span.same w (omega (arith, c.control_span-span.ensures.span.low, low)) (omega (arith, c.min-to.ensures, high));
      root = c.control_span-span.ensures.root;
      small = c.min-to.type_inv;
    } in
    let over : c.min-to.result + 1 < 2 ^ 32 → ⊥ = c.in-None.ensures in
    let some : s.from ≤ s.to = omega (arith, c.min-to.ensures, c.control_span-span.ensures.span.high, c.loop-at-test.true) in
    record {
      order = subst AreInOrder (sym now) (order_push olds s c.loop-at.invariant.rising c.loop-at.invariant.before some);
      each = subst (All (IsSteady c.args.seen.now c.args.p)) (sym now) (All-push (IsSteady c.args.seen.now c.args.p) olds s c.loop-at.invariant.each steady);
      all = λ w low high. subst (λ (xs : List (Span Control)). IsWithin xs w) (sym now) (within_next olds s c.args.low c.loop-at.at c.loop-at.invariant.all refl w low (omega (arith, over, high, c.ranges.number.fits)));
    }
