use Rattle.std.proofs.Common.{◌≡◌}
use Rattle.pg_event.specs.Spelling.{Recorded}
use Rattle.pg_pool.specs.Work.{HasJudged}
use Rattle.pg_pool.proofs.checker.work.Given as goal

abbrev pub invariant-loop : goal.invariant-loop
invariant-loop g l = record {
  fits : (run : Recorded) → g.J.Segments.fits l.segments run l.fn.state → g.J.Segments.fits l.segments run l.state;
  judged : (run : Recorded) → g.J.Segments.fits l.segments run l.fn.state → HasJudged (g.J.Segments.tells l.segments run) l.fn.seat.round l.seat l.told.items;
  round : l.seat.round ≡ l.fn.seat.round;
}
