use Rattle.std.proofs.Common.{◌≡◌, length, take, vec_len, vec_capacity}
use Rattle.pg_guest.proofs.Placed.{IsDriven}
use Rattle.pg_guest.proofs.driver.drive.Given as goal

abbrev pub invariant-loop-p : goal.invariant-loop-p
invariant-loop-p l = record {
  driven : IsDriven l.initial.world l.initial.processors (take l.p-index l.turns) l.answers.items l.world l.processors;
  count : length l.processors ≡ length l.initial.processors;
  taken : vec_len l.answers ≡ l.p-index;
  room : vec_capacity l.answers ≡ length l.turns;
}
