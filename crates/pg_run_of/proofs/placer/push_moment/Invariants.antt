use Rattle.std.proofs.Common.{◌≡◌, ℕ, ◌+◌, ◌-◌, ◌≤◌, [], ◌++◌, length, take}
use Rattle.pg_run_of.specs.Plan.{fills_at}
use Rattle.pg_run_of.proofs.placer.push_moment.Given as goal

abbrev pub invariant-loop-next : goal.invariant-loop-next
invariant-loop-next l = record {
  low : l.from ≤ l.next;
  steps : l.steps.items ≡ l.fn.steps.items ++ fills_at l.moment (take l.next l.fills);
  later : (v : ℕ) → l.moment + 1 ≤ v → fills_at v (take l.next l.fills) ≡ [];
}

abbrev pub decreases-loop-next : goal.decreases-loop-next
decreases-loop-next l = length l.fills - l.next
