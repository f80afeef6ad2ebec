use Rattle.std.proofs.Common.{arith}
use Rattle.pg_arguments.specs.Values.{IsFrom1ToAMillion, IsNumberIn}
use Rattle.pg_arguments.proofs.Parses.{reads_both, reads_none, reads_other}
use Rattle.pg_arguments.proofs.values.most_of.Goals as goal

pub returns-in_err-most : goal.returns-in_err-most
returns-in_err-most c = rw (c.in-Some.is, c.from_residual.ensures) (reads_none (IsNumberIn c.in-Some.text.now) IsFrom1ToAMillion c.in_err-most.ensures)

pub returns-then-most-lt1 : goal.returns-then-most-lt1
returns-then-most-lt1 c = rw c.in-Some.is (reads_other (IsNumberIn c.in-Some.text.now) IsFrom1ToAMillion c.in_ok-most.most c.in_ok-most.ensures (λ few. omega (arith, few.0, few.1, c.then-most-lt1.either)))

pub returns : goal.returns
returns c = rw c.in-Some.is (reads_both (IsNumberIn c.in-Some.text.now) IsFrom1ToAMillion c.in_ok-most.most c.in_ok-most.ensures (c.if-most-lt1.false, c.if-most-gt1000000.false))
