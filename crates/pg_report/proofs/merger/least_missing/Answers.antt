use Rattle.std.proofs.Common.{rules, arith}
use Rattle.pg_report.proofs.Merged.{missing_found, no_missing}
use Rattle.pg_report.proofs.merger.least_missing.Goals as goal

pub returns-then-counts-number-eq0 : goal.returns-then-counts-number-eq0
returns-then-counts-number-eq0 c = λ verdicts h.
    missing_found c.args.round verdicts c.args.counts.now h c.loop-number.number (c.loop-number.auto.number, c.loop-number-test.true) (search rules) c.loop-number.invariant

pub returns : goal.returns
returns c = λ verdicts h.
    no_missing c.args.round verdicts c.args.counts.now h (λ m within. c.loop-number.invariant m within (omega (arith, c.loop-number-test.false, within.1)))
