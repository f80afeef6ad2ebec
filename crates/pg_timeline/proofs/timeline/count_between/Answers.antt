use Rattle.std.proofs.Common.{arith}
use Rattle.pg_timeline.proofs.Halves.{search_starts, search_ends, search_right, search_left, reaches_right, reaches_left}
use Rattle.pg_timeline.proofs.timeline.count_between.Goals as goal

pub loop-low-init : goal.loop-low-init
loop-low-init g c =
    (omega arith, record { within = c.requires.within; left = c.requires.low; right = c.requires.high }, λ n wide. search_starts c.args.from c.args.to c.args.probes.now n wide)

pub loop-low-preserved-then-moment_at-moment : goal.loop-low-preserved-then-moment_at-moment
loop-low-preserved-then-moment_at-moment g c = (
  omega (arith, c.loop-low.invariant.0, c.moment_at.ensures.more),
  search_right c.args.stamps.now c.args.moment c.loop-low.low c.loop-low.high c.moment_at.result c.requires.rising c.loop-low.invariant.1 c.loop-low-test.true c.moment_at.ensures.moment c.if-moment_at-moment.true,
  λ n wide. reaches_right c.loop-low.low c.loop-low.high c.loop-low.probes c.moment_at.new.probes _ c.loop-low-test.true (c.loop-low.invariant.2 n wide) (omega (arith, c.moment_at.ensures.probes)),
)

pub loop-low-preserved : goal.loop-low-preserved
loop-low-preserved g c = (
  omega (arith, c.loop-low.invariant.0, c.moment_at.ensures.more),
  search_left c.args.stamps.now c.args.moment c.loop-low.low c.loop-low.high c.moment_at.result c.requires.rising c.loop-low.invariant.1 c.loop-low-test.true c.moment_at.ensures.moment c.if-moment_at-moment.false,
  λ n wide. reaches_left c.loop-low.low c.loop-low.high c.loop-low.probes c.moment_at.new.probes _ c.loop-low-test.true (c.loop-low.invariant.2 n wide) (omega (arith, c.moment_at.ensures.probes)),
)

pub returns-clause-count : goal.returns-clause-count
returns-clause-count g c = omega (arith, c.loop-low-test.false, c.loop-low.invariant.1.left, c.loop-low.invariant.1.right)

pub returns-clause-probes : goal.returns-clause-probes
returns-clause-probes g c = λ n wide. search_ends _ _ _ _ (c.loop-low.invariant.2 n wide)
