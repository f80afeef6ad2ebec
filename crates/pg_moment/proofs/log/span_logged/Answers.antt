use Rattle.std.proofs.Common.{◌≡◌, ◌≤◌, refl, ap, ◌∙◌, arith}
use Rattle.std.specs.Option.{unwrap_or}
use Rattle.pg_timeline.specs.Timelines.{last_before}
use Rattle.pg_moment.specs.Stamps.{logged}
use Rattle.pg_moment.proofs.Logs.{older_at, is_last, seen_after, seen_before}
use Rattle.pg_moment.proofs.log.span_logged.Goals as goal

pub loop-left-init : goal.loop-left-init
loop-left-init c = record { are = c.requires; high = omega (arith, c.ranges.moment); same = λ w low. refl; more = omega arith; few = omega arith }

pub bounds-log-at : goal.bounds-log-at
bounds-log-at c = (is_last c.args.log.now c.loop-left.left c.loop-left.at (older_at c.args.log.now c.loop-left.at) c.loop-left-test.true c.loop-left.invariant.are refl).within

pub returns-then-older-moment-clause-span : goal.returns-then-older-moment-clause-span
returns-then-older-moment-clause-span c =
    let log = c.args.log.now in
    let o = older_at log c.loop-left.at in
    let i = c.loop-left.invariant in
    let last = is_last log c.loop-left.left c.loop-left.at o c.loop-left-test.true i.are refl in
    record {
      low = omega (arith, c.if-older-moment.true);
      high = i.high;
      same = λ w low high. ap (λ f. unwrap_or f c.args.start) (i.same w high ∙ seen_after log c.loop-left.left c.loop-left.at o last w (omega (arith, low)));
    }

pub returns-then-older-moment-clause-probes : goal.returns-then-older-moment-clause-probes
returns-then-older-moment-clause-probes c =
    let i = c.loop-left.invariant in
    (omega (arith, i.more, c.tick.ensures.more), omega (arith, i.few, c.tick.ensures.count, c.loop-left-test.true))

pub loop-left-preserved : goal.loop-left-preserved
loop-left-preserved c =
    let log = c.args.log.now in
    let o = older_at log c.loop-left.at in
    let i = c.loop-left.invariant in
    let last = is_last log c.loop-left.left c.loop-left.at o c.loop-left-test.true i.are refl in
    let above : c.args.moment ≤ o.moment = omega (arith, c.if-older-moment.false) in
    record {
      are = last.others;
      high = omega (arith, above, i.high, c.min-to.ensures);
      same = λ w low. i.same w (omega (arith, low, c.min-to.ensures)) ∙ seen_before log c.loop-left.left c.loop-left.at o last w (omega (arith, low, c.min-to.ensures));
      more = omega (arith, i.more, c.tick.ensures.more);
      few = omega (arith, i.few, c.tick.ensures.count, c.loop-left-test.true);
    }

pub returns-clause-span : goal.returns-clause-span
returns-clause-span c =
    let i = c.loop-left.invariant in
    let none : c.loop-left.left ≡ 0 = omega (arith, c.loop-left-test.false) in
    record {
      low = omega arith;
      high = i.high;
      same = λ w low high. ap (λ f. unwrap_or f c.args.start) (i.same w high ∙ ap (λ n. last_before w (logged c.args.log.now n c.loop-left.at)) none);
    }

pub returns-clause-probes : goal.returns-clause-probes
returns-clause-probes c =
    let i = c.loop-left.invariant in
    (i.more, omega (arith, i.few))
