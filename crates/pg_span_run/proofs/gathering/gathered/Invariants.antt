use Rattle.std.proofs.Common.{◌≡◌, ◌<◌, ◌^◌, length, take}
use Rattle.pg_span_run.specs.Runs.{events_of}
use Rattle.pg_span_run.proofs.gathering.gathered.Given as goal

abbrev pub invariant-loop-log : goal.invariant-loop-log
invariant-loop-log l = record {
  events : l.all.items ≡ events_of (take l.log-index l.logs);
  count : length l.all.items < 2 ^ 32;
}
