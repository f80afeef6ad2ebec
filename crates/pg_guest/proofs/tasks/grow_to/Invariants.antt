use Rattle.std.proofs.Common.{◌≡◌, ◌≤◌, ℕ, vec_len}
use Rattle.pg_guest.specs.Dealt.{list_at}
use Rattle.pg_guest.proofs.tasks.grow_to.Given as goal

abbrev pub invariant-loop : goal.invariant-loop
invariant-loop l = record {
  same : (p : ℕ) → list_at l.lists.items p ≡ list_at l.fn.lists.items p;
  so_far : l.counter ≤ vec_len l.lists;
}
