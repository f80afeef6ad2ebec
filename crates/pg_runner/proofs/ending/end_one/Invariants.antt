use Rattle.std.proofs.Common.{◌≡◌, length, map}
use mathlib.Core.List.{IsPrefix}
use Rattle.pg_guest.specs.Held.{seen}
use Rattle.pg_runner.specs.Boards.{IsRunOf}
use Rattle.pg_runner.specs.Guests.{StayBut}
use Rattle.pg_runner.proofs.ending.end_one.Given as goal

abbrev pub invariant-loop : goal.invariant-loop
invariant-loop l = record {
  script : IsRunOf l.script l.board.world l.board.processors;
  count : length l.board.processors ≡ length l.initial.board.processors;
  grows : IsPrefix l.initial.board.world.events l.board.world.events;
  others : StayBut l.p (map seen l.initial.board.processors) (map seen l.board.processors);
}
