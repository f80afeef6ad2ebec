use Rattle.std.proofs.Common.{◌≤◌, ℕ, take, vec_len}
use Rattle.pg_reach.specs.Parts.{part_at, ArePart}
use Rattle.pg_reach.proofs.parts.parts_of.Given as goal

abbrev pub invariant-loop-span : goal.invariant-loop-span
invariant-loop-span l = record {
  enough : 64 ≤ vec_len l.parts;
  all : (k : ℕ) → ArePart k (take l.span-index l.spans) (part_at l.parts.items k);
}
