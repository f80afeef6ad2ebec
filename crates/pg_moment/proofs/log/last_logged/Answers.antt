use Rattle.std.proofs.Common.{◌≡◌, refl, ap, sym, ◌∙◌, arith}
use Rattle.pg_timeline.specs.Timelines.{last_before}
use Rattle.pg_moment.specs.Stamps.{logged}
use Rattle.pg_moment.proofs.Logs.{older_at, is_last, seen_after, seen_before}
use Rattle.pg_moment.proofs.log.last_logged.Goals as goal

pub loop-left-init : goal.loop-left-init
loop-left-init c = record { are = c.requires; same = refl; more = omega arith; few = omega arith }

pub bounds-log-at : goal.bounds-log-at
bounds-log-at c = (is_last c.args.log.now c.loop-left.left c.loop-left.at (older_at c.args.log.now c.loop-left.at) c.loop-left-test.true c.loop-left.invariant.are refl).within

pub returns-then-older-moment-clause-value : goal.returns-then-older-moment-clause-value
returns-then-older-moment-clause-value c =
    let log = c.args.log.now in
    let o = older_at log c.loop-left.at in
    let i = c.loop-left.invariant in
    let last = is_last log c.loop-left.left c.loop-left.at o c.loop-left-test.true i.are refl in
    sym (i.same ∙ seen_after log c.loop-left.left c.loop-left.at o last c.args.moment c.if-older-moment.true)

pub returns-then-older-moment-clause-probes : goal.returns-then-older-moment-clause-probes
returns-then-older-moment-clause-probes c =
    let i = c.loop-left.invariant in
    (omega (arith, i.more, c.tick.ensures.more), omega (arith, i.few, c.tick.ensures.count, c.loop-left-test.true))

pub loop-left-preserved : goal.loop-left-preserved
loop-left-preserved c =
    let log = c.args.log.now in
    let o = older_at log c.loop-left.at in
    let i = c.loop-left.invariant in
    let last = is_last log c.loop-left.left c.loop-left.at o c.loop-left-test.true i.are refl in
    record {
      are = last.others;
      same = i.same ∙ seen_before log c.loop-left.left c.loop-left.at o last c.args.moment (omega (arith, c.if-older-moment.false));
      more = omega (arith, i.more, c.tick.ensures.more);
      few = omega (arith, i.few, c.tick.ensures.count, c.loop-left-test.true);
    }

pub returns-clause-value : goal.returns-clause-value
returns-clause-value c =
    let i = c.loop-left.invariant in
    let none : c.loop-left.left ≡ 0 = omega (arith, c.loop-left-test.false) in
    sym (i.same ∙ ap (λ n. last_before c.args.moment (logged c.args.log.now n c.loop-left.at)) none)

pub returns-clause-probes : goal.returns-clause-probes
returns-clause-probes c =
    let i = c.loop-left.invariant in
    (i.more, omega (arith, i.few))
