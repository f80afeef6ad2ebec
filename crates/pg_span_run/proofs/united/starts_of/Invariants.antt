use Rattle.std.proofs.Common.{◌≡◌, ◌<◌, ℕ, length}
use Rattle.pg_span_run.specs.Parts.{IsStartOf}
use Rattle.pg_span_run.proofs.united.starts_of.Given as goal

abbrev pub invariant-loop-processor : goal.invariant-loop-processor
invariant-loop-processor l = record {
  count : length l.starts.items ≡ l.processor;
  each : (p : ℕ) → p < l.processor → IsStartOf l.logs l.starts.items p;
}
