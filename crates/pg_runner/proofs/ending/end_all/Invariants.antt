use Rattle.std.proofs.Common.{◌≡◌, ℕ, ◌<◌, length, map}
use mathlib.Core.List.{IsPrefix}
use Rattle.pg_guest.specs.Held.{seen}
use Rattle.pg_runner.specs.Boards.{HasToldAll, IsRunOf}
use Rattle.pg_runner.proofs.ending.end_all.Given as goal

abbrev pub invariant-loop-p : goal.invariant-loop-p
invariant-loop-p l = record {
  script : IsRunOf l.script l.board.world l.board.processors;
  within : length l.board.processors ≡ l.count;
  grows : IsPrefix l.initial.board.world.events l.board.world.events;
  told : (q : ℕ) → q < l.p → HasToldAll q (map seen l.board.processors);
}
