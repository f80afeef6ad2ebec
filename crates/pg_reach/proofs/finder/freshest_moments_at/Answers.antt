use Rattle.std.proofs.Common.{true}
use Rattle.std.proofs.lemmas.Result.{IfOk-weaker}
use Rattle.pg_search.specs.Law.{AreWitness}
use Rattle.pg_reach.proofs.Fresh.{freshest_of, none_of}
use Rattle.pg_reach.proofs.finder.freshest_moments_at.Goals as goal

pub returns-clause-freshest : goal.returns-clause-freshest
returns-clause-freshest c = IfOk-weaker c.find.result _ _ (λ found h. freshest_of (AreWitness c.args.seen.now.head c.args.seen.now.events c.args.number c.args.event.now) found h) c.find.ensures.all

pub returns-clause-none : goal.returns-clause-none
returns-clause-none c = IfOk-weaker c.find.result _ _ (λ found h. none_of true (AreWitness c.args.seen.now.head c.args.seen.now.events c.args.number c.args.event.now) found h) c.find.ensures.all
