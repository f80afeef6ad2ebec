use Rattle.std.proofs.Common.{◌≤◌, ℕ, Option, subst, MatchOption}
use Rattle.pg_check.specs.Lasting.{IsFirstToPass}
use Rattle.pg_check.proofs.Lastings.{none_shorter, first_below}
use Rattle.pg_check.proofs.access.is_dropped.Goals as goal

pub returns-in-Some : goal.returns-in-Some
returns-in-Some c = λ test first.
    let walk = c.args.walk in
    let from = walk.chain.end.moment in
    first_below test from walk.asked c.args.number c.in-Some.first
    (subst (λ (d : Option ℕ). IsFirstToPass test from walk.asked d) c.in-Some.is first)

pub returns-in-None : goal.returns-in-None
returns-in-None c = λ test first.
    let walk = c.args.walk in
    let from = walk.chain.end.moment in
    none_shorter test from walk.asked c.args.number
    (subst (λ (d : Option ℕ). MatchOption d (c.args.number ≤ walk.asked) (λ first. Unit {0})) c.in-None.is c.requires)
    (subst (λ (d : Option ℕ). IsFirstToPass test from walk.asked d) c.in-None.is first)
