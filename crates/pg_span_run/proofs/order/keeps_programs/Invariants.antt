use Rattle.std.proofs.Common.{◌≡◌, ◌<◌, ℕ, length, slice_index}
use Rattle.pg_span_run.specs.Orders.{AreOfOneProcessor}
use Rattle.pg_span_run.specs.Places.{IsBoundOf}
use Rattle.pg_span_run.proofs.Bounds.{Of}
use Rattle.pg_span_run.proofs.order.keeps_programs.Given as goal

abbrev pub invariant-loop-i : goal.invariant-loop-i
invariant-loop-i l = record {
  count : length l.bounds.items ≡ l.processors;
  each : (p : ℕ) → p < l.processors → IsBoundOf (Of l.events p l.i) l.places (slice_index l.bounds.items p);
  kept : (j i : ℕ) → i < l.i → j < i → AreOfOneProcessor l.events j i → slice_index l.places j < slice_index l.places i;
}
