use Rattle.std.proofs.Common.{arith}
use Rattle.pg_certify.specs.Segments.{IsBetween}
use Rattle.pg_certify.proofs.Segments.{certified_if_ok, denied_if_ok}
use Rattle.pg_certify.proofs.whole.first_denied.Goals as goal

pub returns-clause-denied : goal.returns-clause-denied
returns-clause-denied c =
    denied_if_ok (IsBetween 0 c.len-count.result) c.args.history.now.head c.args.history.now.events c.first_denied_between.result
    (λ k lt. (omega arith, omega (arith, lt, c.len-count.ensures.length))) c.first_denied_between.ensures.denied

pub returns-clause-certified : goal.returns-clause-certified
returns-clause-certified c =
    certified_if_ok (IsBetween 0 c.len-count.result) c.args.history.now.head c.args.history.now.events c.first_denied_between.result
    (λ k lt. (omega arith, omega (arith, lt, c.len-count.ensures.length))) c.first_denied_between.ensures.denied
