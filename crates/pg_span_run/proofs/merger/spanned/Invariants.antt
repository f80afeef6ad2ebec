use Rattle.std.proofs.Common.{◌≡◌, ◌-◌, ◌<◌, ℕ, length, take, map, Some}
use Rattle.std.specs.Prelude.{slice_get, slice_index, count_by}
use Rattle.pg_span_run.specs.declared.log.Stamped.{Stamped}
use Rattle.pg_span_run.specs.Merged.{had_ended}
use Rattle.pg_span_run.proofs.merger.spanned.Given as goal

abbrev pub invariant-loop-i : goal.invariant-loop-i
invariant-loop-i l = record {
  head : l.run.head ≡ l.fn.header;
  events : l.run.events ≡ map (λ (x : Stamped). x.event) (take l.i l.all);
  long : length l.run.events ≡ l.i;
  backs : length l.run.backs ≡ l.i;
  spans : (k : ℕ) (x : Stamped) → k < l.i → slice_get l.all k ≡ Some x → slice_index l.run.backs k ≡ k - count_by (had_ended l.error x) l.all;
}
