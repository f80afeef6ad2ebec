use Rattle.std.proofs.Common.{◌≡◌, ◌<◌, ◌-◌, ℕ, length, slice_index}
use Rattle.pg_span_run.specs.Places.{IsBoundOf}
use Rattle.pg_span_run.proofs.Bounds.{Below}
use Rattle.pg_span_run.proofs.order.keeps_spans.Given as goal

abbrev pub invariant-loop-i : goal.invariant-loop-i
invariant-loop-i l = record {
  count : length l.bounds.items ≡ l.i;
  each : (m : ℕ) → m < l.i → IsBoundOf (Below m) l.places (slice_index l.bounds.items m);
  bound : IsBoundOf (Below l.i) l.places l.bound;
  kept : (j i : ℕ) → i < l.i → j < i - slice_index l.backs i → slice_index l.places j < slice_index l.places i;
}
