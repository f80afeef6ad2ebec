use Rattle.std.proofs.Common.{◌≤◌, vec_len, vec_capacity}
use Rattle.pg_runner.proofs.processor_threads.fn.run_all.scope.Given as goal

abbrev pub invariant-loop-p : goal.invariant-loop-p
invariant-loop-p g l = record {
  all : vec_len l.handles ≤ l.p;
  room : l.count ≤ vec_capacity l.handles;
}
