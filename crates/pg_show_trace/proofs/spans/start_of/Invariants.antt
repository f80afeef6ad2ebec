use Rattle.std.proofs.Common.{◌≡◌, ◌≤◌, ◌+◌, drop}
use Rattle.pg_show_trace.specs.Spans.{between, start_behind, start_of}
use Rattle.pg_show_trace.proofs.spans.start_of.Given as goal

abbrev pub invariant-loop-i : goal.invariant-loop-i
invariant-loop-i l = record {
  value : start_behind l.p (l.began + l.i) l.start (drop l.i (between l.began l.number l.events)) ≡ start_of l.events l.p l.began l.number;
  within : l.start ≤ l.began + l.i;
}
