use Rattle.std.proofs.Common.{◌≡◌}
use Rattle.crossbeam_deque.specs.Handles.{view, IsPassOf, stealer_deque}
use Rattle.pg_pool.proofs.steps.steal.Given as goal

abbrev pub invariant-loop : goal.invariant-loop
invariant-loop l = IsPassOf (stealer_deque l.reach) l.token × (view l.token ≡ view l.initial.token)
