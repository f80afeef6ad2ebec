use Rattle.std.proofs.Common.{◌≡◌, ◌≤◌, length, take}
use Rattle.std.specs.Io.KnownBytes.{Appends}
use Rattle.pg_codec.proofs.transfer.put_all.Given as goal

abbrev pub invariant-loop : goal.invariant-loop
invariant-loop g l = record {
  within : l.at ≤ length l.bytes;
  moved : l.counter ≤ l.at;
  bytes : Appends (g.W.Sink.held l.fn.sink) (g.W.Sink.held l.sink) (take l.at l.bytes);
  failures : g.W.Sink.failed l.sink ≡ g.W.Sink.failed l.fn.sink;
}
