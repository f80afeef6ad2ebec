use Rattle.std.proofs.Common.{◌≡◌, map, Ok, arith}
use Rattle.std.proofs.lemmas.Grind.{common_steps}
use Rattle.pg_pool.proofs.Joined.{all_ok}
use Rattle.pg_pool.proofs.checkers.settled.Goals as goal

pub returns-then-started-asked-clause-thread : goal.returns-then-started-asked-clause-thread
returns-then-started-asked-clause-thread g c = λ is.
    let whole : c.args.done.items ≡ map (λ d. Ok d) c.loop-one.all.items = grind (arith, common_steps) in
    (omega (arith, c.if-started-asked.true, c.len-started.ensures), all_ok c.args.done.items c.loop-one.all.items whole)
