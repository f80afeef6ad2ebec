use Rattle.std.proofs.Common.{map, subst}
use Rattle.pg_runner.specs.Boards.{Desk}
use Rattle.pg_guest.specs.Held.{seen}
use Rattle.pg_guest.specs.Laws.{IsQuiet}
use Rattle.pg_guest.specs.Transcripts.{AreTold}
use Rattle.pg_runner.proofs.OfScripts.{board_quiet, board_told, board_open}
use Rattle.pg_runner.proofs.board.Board.header.Goals as goal

pub returns-clause-quiet : goal.returns-clause-quiet
returns-clause-quiet c = subst (λ (d : Desk). IsQuiet d.world (map seen d.processors)) c.self.view_is (board_quiet _ _ c.self.invariant.0)

pub returns-clause-told : goal.returns-clause-told
returns-clause-told c = subst (λ (d : Desk). AreTold d.world (map seen d.processors)) c.self.view_is (board_told _ _ c.self.invariant.0)

pub returns-clause-open : goal.returns-clause-open
returns-clause-open c = rw (← c.self.view_is) (board_open _ _ c.self.invariant.0)
