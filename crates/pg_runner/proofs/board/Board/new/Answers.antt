use Rattle.std.proofs.Common.{◌∙◌, ap}
use Rattle.pg_guest.specs.CoreRun.{unwritten}
use Rattle.pg_runner.proofs.OfScripts.{new_board}
use Rattle.pg_runner.proofs.board.Board.new.Goals as goal

pub invariant_of-result : goal.invariant_of-result
invariant_of-result c = (
  new_board c.args.script.now c.new-world.result c.in_ok-processors.processors.items c.header.ensures.kept (c.new-world.ensures ∙ ap unwritten (c.in_ok-clone.ensures ∙ c.header.ensures.header)) c.in_ok-processors.ensures.made,
  c.requires,
)
