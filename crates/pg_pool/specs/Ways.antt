-- A seat's own deque, and its ways to others.
use Rattle.std.specs.Prelude.{List, map}
use Rattle.crossbeam_deque.specs.Handles.{view, stealer_deque, worker_deque, worker_view}
use Rattle.crossbeam_deque.specs.declared.handles.Worker.{Worker}
use Rattle.pg_pool.specs.declared.deque_view.DequeView.{DequeView}
use Rattle.pg_pool.specs.declared.other_deque.OtherDeque.{OtherDeque}
use Rattle.pg_pool.specs.Seats.{Part, part_of}

-- the part of the own deque
abbrev pub own_part : {T A P : Type 0} → Worker T A DequeView P → Part
own_part w = part_of (worker_deque w).0 (worker_view w)

-- the part of the deque of another checker
abbrev pub reached_part : OtherDeque → Part
reached_part t = part_of (stealer_deque t.reach).0 (view t.token)

-- the parts of the deques of other checkers
abbrev pub reached : List OtherDeque → List Part
reached other_deques = map reached_part other_deques
