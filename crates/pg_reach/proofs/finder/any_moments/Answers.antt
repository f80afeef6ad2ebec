use Rattle.std.proofs.Common.{false}
use Rattle.std.proofs.lemmas.Result.{IfOk-weaker}
use Rattle.pg_search.specs.Law.{AreWitness}
use Rattle.pg_reach.proofs.Fresh.{none_of}
use Rattle.pg_reach.proofs.finder.any_moments.Goals as goal

pub returns-clause-none : goal.returns-clause-none
returns-clause-none c = IfOk-weaker c.find.result _ _ (λ found h. none_of false (AreWitness c.args.seen.now.head c.args.seen.now.events c.args.number c.args.event.now) found h) c.find.ensures.all
