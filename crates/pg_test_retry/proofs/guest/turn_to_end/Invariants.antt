use Rattle.std.proofs.Common.{◌<◌, length}
use Rattle.pg_guest.specs.Runs.{ArePlaced}
use Rattle.pg_test_retry.proofs.guest.turn_to_end.Given as goal

abbrev pub invariant-loop : goal.invariant-loop
invariant-loop l = record {
  placed : ArePlaced l.world.head l.guests;
  some : 0 < length l.guests;
}
