use Rattle.std.proofs.Common.{ℕ, Option, subst}
use Rattle.pg_check.specs.Lasting.{IsFirstToPass}
use Rattle.pg_check.proofs.lasting.unasked.Goals as goal

pub returns-in-Some : goal.returns-in-Some
returns-in-Some c = λ test to first was now. now

pub returns-in-None : goal.returns-in-None
returns-in-None c = λ test to first was now.
    let moment = c.args.walk.chain.end.moment in
    c.later.ensures test to first (subst (λ (d : Option ℕ). IsFirstToPass test moment c.args.walk.asked d) c.in-None.is was) now
