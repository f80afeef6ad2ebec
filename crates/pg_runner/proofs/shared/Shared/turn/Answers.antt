use Rattle.std.proofs.Common.{[], ◌∷◌}
use Rattle.pg_runner.proofs.GivenOut.{given_after_turn}
use Rattle.pg_runner.proofs.shared.Shared.turn.Goals as goal

pub invariant_of-self : goal.invariant_of-self
invariant_of-self g c = given_after_turn c.self.inside.given c.self.inside.board c.turn.new.self (c.args.p ∷ []) (c.turn.result ∷ []) c.turn.ensures.turn c.turn.ensures.grows c.self.invariant
