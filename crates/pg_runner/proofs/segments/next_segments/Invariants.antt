use Rattle.std.proofs.Common.{◌≡◌, false}
use Rattle.pg_runner.specs.Live.{AreNext}
use Rattle.pg_runner.proofs.segments.next_segments.Given as goal

abbrev pub invariant-loop : goal.invariant-loop
invariant-loop l = record {
  still : l.board.world.finished ≡ false;
  next : AreNext l.initial.board l.board l.events.items;
}
