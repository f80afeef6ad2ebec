use Rattle.std.proofs.Common.{◌-◌, ◌<◌, arith}
use Rattle.pg_timeline.proofs.Halves.{count_from}
use Rattle.pg_timeline.proofs.Spans.{below_count}
use Rattle.pg_timeline.proofs.timeline.begin_of.Goals as goal

pub overflow_add-result : goal.overflow_add-result
overflow_add-result g c =
    let below : c.moment_at.result < c.args.moment =
    below_count c.args.stamps.now c.args.moment (c.args.count - 1) c.moment_at.result c.requires.rising c.moment_at.ensures.moment (omega (arith, c.requires.count, c.if-count-eq0.false)) in
    omega (arith, below, c.ranges.moment)

pub returns-else-count-eq0-clause-low : goal.returns-else-count-eq0-clause-low
returns-else-count-eq0-clause-low g c =
    let below : c.moment_at.result < c.args.moment =
    below_count c.args.stamps.now c.args.moment (c.args.count - 1) c.moment_at.result c.requires.rising c.moment_at.ensures.moment (omega (arith, c.requires.count, c.if-count-eq0.false)) in
    omega (arith, below)

pub returns-else-count-eq0-clause-below : goal.returns-else-count-eq0-clause-below
returns-else-count-eq0-clause-below g c = λ w le.
    omega (arith, c.if-count-eq0.false, count_from c.args.stamps.now w (c.args.count - 1) c.moment_at.result c.requires.rising c.moment_at.ensures.moment (omega (arith, le)))
