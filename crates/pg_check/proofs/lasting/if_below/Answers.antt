use Rattle.std.proofs.Common.{◌-◌, ◌^◌, ℕ, Option, subst, arith}
use Rattle.pg_check.specs.Lasting.{IsFirstToPass}
use Rattle.pg_check.proofs.Lastings.{none_before}
use Rattle.pg_check.proofs.lasting.if_below.Goals as goal

pub returns-else-number-to : goal.returns-else-number-to
returns-else-number-to c = λ test from first.
    let found = subst (λ (d : Option ℕ). IsFirstToPass test from (2 ^ 32 - 1) d) c.in-Some.is first in
    none_before test from c.args.to c.in-Some.number (omega (arith, c.if-number-to.false)) found.2

pub returns-in-None : goal.returns-in-None
returns-in-None c = λ test from first.
    let none = subst (λ (d : Option ℕ). IsFirstToPass test from (2 ^ 32 - 1) d) c.in-None.is first in
    none_before test from c.args.to (2 ^ 32 - 1) (omega (arith, c.ranges.to)) none
