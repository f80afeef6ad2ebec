use Rattle.std.proofs.Common.{IfSome, List, Option, subst}
use Rattle.pg_runner.specs.declared.batch.Batch.{Batch}
use Rattle.pg_runner.specs.Given.{AreGiven}
use Rattle.pg_runner.proofs.GivenOut.{begun_of}
use Rattle.pg_runner.proofs.shared.Shared.apart.Goals as goal

pub returns-in-Some : goal.returns-in-Some
returns-in-Some g c =
    let board = c.self.inside.board in
    let given : AreGiven board c.in-Some.given = subst (λ (o : Option (List Batch)). IfSome o (λ l. AreGiven board l)) c.in-Some.is c.self.invariant in
    begun_of c.team_of.result board c.in-Some.given given c.team_of.ensures
