use Rattle.pg_certify.proofs.Founds.{found_for}
use Rattle.pg_certify.proofs.certifier.Certifier.find.Goals as goal

pub returns-in-Some-clause-found : goal.returns-in-Some-clause-found
returns-in-Some-clause-found g c =
    found_for c.args.self.now.head c.args.self.now.events c.args.i c.args.event.now c.in_ok-moments.field-0 c.in-Some.moments c.with_moments.result c.in-Some.is c.in_ok-moments.ensures.found c.moments_fit.ensures c.with_moments.ensures
