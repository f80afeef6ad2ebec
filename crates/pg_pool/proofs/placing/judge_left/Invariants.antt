use Rattle.std.proofs.Common.{◌≡◌, All, take}
use Rattle.pg_event.specs.Spelling.{Recorded}
use Rattle.pg_pool.specs.Verdicts.{IsTold, numbers_of}
use Rattle.pg_pool.proofs.placing.judge_left.Given as goal

abbrev pub invariant-loop-number : goal.invariant-loop-number
invariant-loop-number g l = record {
  fits : (run : Recorded) → g.J.Segments.fits l.segments run l.initial.state → g.J.Segments.fits l.segments run l.state;
  numbers : numbers_of l.told.items ≡ take l.number-index l.left;
  told : (run : Recorded) → g.J.Segments.fits l.segments run l.initial.state → All (IsTold (g.J.Segments.tells l.segments run) (g.J.Segments.round l.segments)) l.told.items;
}
