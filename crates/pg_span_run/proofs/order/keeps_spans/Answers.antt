use Rattle.std.proofs.Common.{◌≡◌, ◌+◌, ◌-◌, ◌<◌, ℕ, List, [], ◌∷◌, ◌++◌, length, get_or, arith, ap, sym, ◌∙◌, subst}
use Rattle.pg_span_run.specs.Places.{IsBoundOf}
use Rattle.pg_span_run.proofs.Bounds.{Below, one_more, bounds_more, spans_more, spans_broken}
use Rattle.pg_span_run.proofs.Places.{read_at}
use Rattle.pg_span_run.proofs.order.keeps_spans.Goals as goal

pub returns-then-places-i : goal.returns-then-places-i
returns-then-places-i c =
    let i : ℕ = c.loop-i.i in
    let backs : List ℕ = c.args.backs.now in
    let places : List ℕ = c.args.places.now in
    let bounds : List ℕ = c.push.new.self.items in
    let pushed : bounds ≡ c.loop-i.bounds.items ++ c.loop-i.bound ∷ [] = c.in_ok-push.ensures.items in
    let since : c.saturating_sub.result ≡ i - get_or backs i 0 = c.saturating_sub.ensures in
    let each : (m : ℕ) → m < i + 1 → IsBoundOf (Below m) places (get_or bounds m 0) = λ m lt. subst (λ xs. IsBoundOf (Below m) places (get_or xs m 0)) (sym pushed) (bounds_more places c.loop-i.bounds.items i c.loop-i.bound c.loop-i.invariant.count c.loop-i.invariant.each c.loop-i.invariant.bound m lt) in
    let count : length bounds ≡ i + 1 = omega (arith, c.in_ok-push.ensures.len, c.loop-i.invariant.count) in
    let here : c.index.result.now ≡ get_or bounds (i - get_or backs i 0) 0 = read_at bounds c.saturating_sub.result c.index.result.now (omega (arith, since, count)) c.index.ensures ∙ ap (λ k. get_or bounds k 0) since in
    (λ no. absurd (cc), λ kept. absurd (spans_broken backs places i (get_or bounds (i - get_or backs i 0) 0) c.loop-i-test.true (each (i - get_or backs i 0) (omega arith)) (omega (arith, here, c.if-places-i.true)) kept))

pub loop-i-preserved : goal.loop-i-preserved
loop-i-preserved c =
    let i : ℕ = c.loop-i.i in
    let backs : List ℕ = c.args.backs.now in
    let places : List ℕ = c.args.places.now in
    let bounds : List ℕ = c.push.new.self.items in
    let pushed : bounds ≡ c.loop-i.bounds.items ++ c.loop-i.bound ∷ [] = c.in_ok-push.ensures.items in
    let since : c.saturating_sub.result ≡ i - get_or backs i 0 = c.saturating_sub.ensures in
    let each : (m : ℕ) → m < i + 1 → IsBoundOf (Below m) places (get_or bounds m 0) = λ m lt. subst (λ xs. IsBoundOf (Below m) places (get_or xs m 0)) (sym pushed) (bounds_more places c.loop-i.bounds.items i c.loop-i.bound c.loop-i.invariant.count c.loop-i.invariant.each c.loop-i.invariant.bound m lt) in
    let count : length bounds ≡ i + 1 = omega (arith, c.in_ok-push.ensures.len, c.loop-i.invariant.count) in
    let here : c.index.result.now ≡ get_or bounds (i - get_or backs i 0) 0 = read_at bounds c.saturating_sub.result c.index.result.now (omega (arith, since, count)) c.index.ensures ∙ ap (λ k. get_or bounds k 0) since in
    record {
      count = count;
      each = each;
      bound = subst (IsBoundOf (Below (i + 1)) places) (sym c.max-bound.ensures) (one_more places i c.loop-i.bound c.loop-i.invariant.bound);
      kept = spans_more backs places i (get_or bounds (i - get_or backs i 0) 0) (each (i - get_or backs i 0) (omega arith)) (omega (arith, here, c.if-places-i.false)) c.loop-i.invariant.kept;
    }
