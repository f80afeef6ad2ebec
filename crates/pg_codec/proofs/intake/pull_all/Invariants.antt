use Rattle.std.proofs.Common.{◌≡◌, ◌+◌, ◌-◌, ◌≤◌, length}
use Rattle.std.specs.Io.KnownBytes.{Consumes}
use Rattle.pg_codec.proofs.intake.pull_all.Given as goal

abbrev pub invariant-loop-bytes : goal.invariant-loop-bytes
invariant-loop-bytes g l = record {
  most : l.most ≡ l.fn.most;
  within : length l.bytes.items ≤ l.most + 1;
  bytes : Consumes (g.R.Source.left l.fn.source) (g.R.Source.left l.source) l.bytes.items;
  failures : g.R.Source.failed l.source ≡ g.R.Source.failed l.fn.source;
}

abbrev pub decreases-loop-bytes : goal.decreases-loop-bytes
decreases-loop-bytes g l = (l.most + 1) - length l.bytes.items
