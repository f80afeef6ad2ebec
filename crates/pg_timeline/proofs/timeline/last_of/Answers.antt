use Rattle.std.proofs.Common.{arith}
use Rattle.pg_timeline.proofs.Halves.{count_below-le, count_up_to}
use Rattle.pg_timeline.proofs.Spans.{above_count}
use Rattle.pg_timeline.proofs.timeline.last_of.Goals as goal

pub returns-then-count-stamps-clause-high : goal.returns-then-count-stamps-clause-high
returns-then-count-stamps-clause-high g c =
    above_count c.args.stamps.now c.args.moment c.args.count c.moment_at.result c.requires.rising c.moment_at.ensures.moment (omega (arith, c.requires.count))

pub returns-then-count-stamps-clause-above : goal.returns-then-count-stamps-clause-above
returns-then-count-stamps-clause-above g c = λ w le.
    count_up_to c.args.stamps.now w c.args.count c.moment_at.result c.requires.rising c.moment_at.ensures.moment le

pub returns-else-count-stamps-clause-high : goal.returns-else-count-stamps-clause-high
returns-else-count-stamps-clause-high g c = omega (arith, c.ranges.moment)

pub returns-else-count-stamps-clause-above : goal.returns-else-count-stamps-clause-above
returns-else-count-stamps-clause-above g c = λ w le.
    omega (arith, count_below-le w c.args.stamps.now, c.if-count-stamps.false)
