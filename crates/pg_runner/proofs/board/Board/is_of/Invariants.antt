use Rattle.std.proofs.Common.{◌≡◌, ℕ, ◌<◌, Some, slice_get}
use Rattle.pg_guest.specs.Held.{Held}
use Rattle.pg_guest.specs.Tasks.{instructions_of}
use Rattle.pg_runner.proofs.board.Board.is_of.Given as goal

abbrev pub invariant-loop-p : goal.invariant-loop-p
invariant-loop-p l = (p : ℕ) (h : Held) → p < l.p → slice_get l.self.processors p ≡ Some h → h.instructions ≡ instructions_of h.number l.script.tasks
