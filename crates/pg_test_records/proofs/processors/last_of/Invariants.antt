use Rattle.std.proofs.Common.{◌≡◌, length}
use Rattle.pg_guest.specs.Runs.{ArePlaced}
use Rattle.pg_test_records.proofs.processors.last_of.Given as goal

abbrev pub invariant-loop-p : goal.invariant-loop-p
invariant-loop-p l = record {
  placed : ArePlaced l.world.head l.guests;
  count : length l.guests ≡ length l.initial.guests;
}
