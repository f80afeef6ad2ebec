use Rattle.std.proofs.Common.{◌≡◌, ◌≤◌, ℕ, [], vec_len}
use Rattle.pg_reach.specs.Parts.{part_at}
use Rattle.pg_reach.proofs.parts.empty_parts.Given as goal

abbrev pub invariant-loop : goal.invariant-loop
invariant-loop l = record {
  empty : (k : ℕ) → part_at l.parts.items k ≡ [];
  so_far : l.counter ≤ vec_len l.parts;
}
