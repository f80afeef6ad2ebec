use Rattle.std.proofs.Common.{◌≡◌, ◌+◌, ◌*◌, ◌≤◌, ◌∷◌, ◌++◌, length, take}
use Rattle.std.specs.List.{flat_map}
use Rattle.std.specs.Int.{w32, to_le_bytes}
use Rattle.pg_codec.proofs.spelling.push_moments.Given as goal

abbrev pub invariant-loop-i : goal.invariant-loop-i
invariant-loop-i l = record {
  bytes : l.block ≡ l.fn.block ++ length l.moments ∷ flat_map (to_le_bytes w32) (take l.i l.moments);
  room : length l.block ≤ length l.fn.block + 1 + 4 * l.i;
}
