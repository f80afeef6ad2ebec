use Rattle.std.proofs.Common.{arith}
use Rattle.pg_timeline.proofs.Halves.{count_below-le, count_from, count_up_to}
use Rattle.pg_timeline.proofs.timeline.count_after.Goals as goal

pub returns-then-moment_at-moment-clause-count : goal.returns-then-moment_at-moment-clause-count
returns-then-moment_at-moment-clause-count g c =
    omega (arith, count_from _ _ _ _ c.requires.rising c.moment_at.ensures.moment c.if-moment_at-moment.true, count_below-le c.args.moment c.args.stamps.now)

pub returns-then-moment_at-moment-clause-probes : goal.returns-then-moment_at-moment-clause-probes
returns-then-moment_at-moment-clause-probes g c = λ n wide. omega (arith, c.moment_at.ensures.probes)

pub count_between-requires-clause-high : goal.count_between-requires-clause-high
count_between-requires-clause-high g c = count_up_to _ _ _ _ c.requires.rising c.moment_at.ensures.moment c.if-moment_at-moment.false

pub returns-else-moment_at-moment-clause-probes : goal.returns-else-moment_at-moment-clause-probes
returns-else-moment_at-moment-clause-probes g c = λ n wide.
    omega (arith, c.moment_at.ensures.probes, c.count_between.ensures.probes n (omega (arith, wide, c.requires.some)))
