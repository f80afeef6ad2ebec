use Rattle.std.proofs.Common.{arith}
use Rattle.pg_check.proofs.Lastings.{first_joined}
use Rattle.pg_check.proofs.lasting.later.Goals as goal

pub returns-then-asked-moment : goal.returns-then-asked-moment
returns-then-asked-moment c = λ test to first was now. now

pub returns-else-asked-moment : goal.returns-else-asked-moment
returns-else-asked-moment c = λ test to first was now. first_joined test c.args.moment c.args.asked to first (omega (arith, c.if-asked-moment.false)) was now
