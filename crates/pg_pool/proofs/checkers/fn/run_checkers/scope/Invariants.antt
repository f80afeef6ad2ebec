use Rattle.std.proofs.Common.{◌≡◌, ℕ, ◌+◌, ◌<◌, ◌≤◌, All, length, get_or, vec_items, vec_len, vec_capacity}
use Rattle.std.specs.Vec.Iter.{into_iter_items}
use Rattle.pg_event.specs.Spelling.{Recorded}
use Rattle.pg_pool.specs.Work.{IsFreshIn}
use Rattle.pg_pool.proofs.checkers.fn.run_checkers.scope.Given as goal

abbrev pub invariant-loop-seat : goal.invariant-loop-seat
invariant-loop-seat g l = record {
  room : vec_len l.handles + length (into_iter_items l.seat-iterator) ≤ vec_capacity l.handles;
  count : vec_len l.handles + length (into_iter_items l.seat-iterator) ≤ l.asked;
  fresh : All (IsFreshIn l.round) (into_iter_items l.seat-iterator);
  waiting : vec_len l.waiting ≡ length (into_iter_items l.seat-iterator);
  fits : (run : Recorded) → All (g.J.Segments.fits l.segments.now run) l.initial.waiting.items → All (g.J.Segments.fits l.segments.now run) l.waiting.items;
  segments : (k : ℕ) (d : _) → k < vec_len l.handles → (get_or (vec_items l.handles) k d).promise.segments.now ≡ l.segments.now;
  round : (k : ℕ) (d : _) → k < vec_len l.handles → (get_or (vec_items l.handles) k d).promise.round ≡ l.round;
  began : (run : Recorded) → All (g.J.Segments.fits l.segments.now run) l.initial.waiting.items → (k : ℕ) (d : _) → k < vec_len l.handles → g.J.Segments.fits l.segments.now run (get_or (vec_items l.handles) k d).promise.began.value;
}
