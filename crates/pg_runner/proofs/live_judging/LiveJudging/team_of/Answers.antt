use Rattle.std.proofs.Common.{IfSome, List, refl, subst}
use Rattle.pg_runner.specs.declared.batch.Batch.{Batch}
use Rattle.pg_runner.specs.Given.{joined}
use Rattle.pg_runner.specs.Live.{IsWatched}
use Rattle.pg_runner.proofs.live_judging.LiveJudging.team_of.Goals as goal

pub returns : goal.returns
returns g c = subst (λ (log : List Batch). IfSome c.self.inside.team (λ t. IsWatched t (joined log))) (c.if-not-agrees.ensures refl) c.self.invariant
