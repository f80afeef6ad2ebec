use Rattle.pg_runner.proofs.OfScripts.{after_taking}
use Rattle.pg_runner.proofs.board.Board.take_sealed.Goals as goal

pub invariant_of-self : goal.invariant_of-self
invariant_of-self c = (
  after_taking c.take_sealed.result c.self.inside.world c.take_sealed.new.self c.self.inside.processors.items c.take_sealed.ensures.taken c.take_sealed.ensures.err c.self.invariant.0,
  c.self.invariant.1,
)
