use Rattle.std.proofs.Common.{◌≡◌, ℕ, ◌+◌, ◌≤◌}
use Rattle.pg_timeline.specs.Timelines.{last_before}
use Rattle.pg_moment.specs.Stamps.{AreLogged, logged}
use Rattle.pg_moment.proofs.log.span_logged.Given as goal

abbrev pub invariant-loop-left : goal.invariant-loop-left
invariant-loop-left l = record {
  are : AreLogged l.log l.left l.at;
  high : l.moment ≤ l.to;
  same : (w : ℕ) → w ≤ l.to → last_before w (logged l.log l.count l.place) ≡ last_before w (logged l.log l.left l.at);
  more : l.fn.probes ≤ l.probes;
  few : l.probes + l.left ≤ l.fn.probes + l.count;
}

abbrev pub decreases-loop-left : goal.decreases-loop-left
decreases-loop-left l = l.left
