use Rattle.std.proofs.Common.{ℕ, ◌-◌, ◌^◌, Option, subst, arith}
use Rattle.pg_inval.specs.Lists.{IsLeastBetween}
use Rattle.pg_chain.proofs.Below.{none-below, some-below, late-below}
use Rattle.pg_chain.proofs.reader.below.Goals as goal

pub returns-then-number-to : goal.returns-then-number-to
returns-then-number-to c = λ test from least.
    some-below test from c.args.to (2 ^ 32 - 1) c.in-Some.number (omega (arith, c.if-number-to.true)) (subst (λ (o : Option ℕ). IsLeastBetween test from (2 ^ 32 - 1) o) c.in-Some.is least)

pub returns-else-number-to : goal.returns-else-number-to
returns-else-number-to c = λ test from least.
    late-below test from c.args.to (2 ^ 32 - 1) c.in-Some.number (omega (arith, c.if-number-to.false)) (subst (λ (o : Option ℕ). IsLeastBetween test from (2 ^ 32 - 1) o) c.in-Some.is least)

pub returns-in-None : goal.returns-in-None
returns-in-None c = λ test from least.
    none-below test from c.args.to (2 ^ 32 - 1) (omega (arith, c.ranges.to)) (subst (λ (o : Option ℕ). IsLeastBetween test from (2 ^ 32 - 1) o) c.in-None.is least)
